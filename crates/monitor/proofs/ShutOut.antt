-- Wrong programs that the promise of `call` shuts out: one that refuses everything, one with a fixed answer, one that does nothing, one with an empty
-- listing, one that
-- works at the first send and pretends later, one that invents its counts. Each contradicts it on a table of two running processes. Assumes nothing.
use mathlib.Core.Path.{◌≡◌, refl, ap, ◌∙◌}
use mathlib.Core.List.{List, [], ◌∷◌}
use Prim.Native.Nat.{ℕ, ◌*◌, ◌≤◌}
use native.Mathlib.Omega.{arith}
use lib.ListN.{length}
use Rattle.machine.specs.Queue.{Range, same, without, enter, from, keep, fold}
use Rattle.machine.specs.Machine.{Machine, Words, zeros, given, buffers}
use Rattle.machine.specs.Words.{Shows, Buffer, image}
use Rattle.machine.specs.Legal.{Legal}
use Rattle.machine.specs.Request.{request, Start, Send}
use Rattle.machine.specs.Refusal.{row_width, first, refusal}
use Rattle.machine.specs.Step.{Answer as Reply, Outcome, changes, expiring, rows, effect, step, after}
use Rattle.machine.specs.Layout.{laid_over, laid, sum, owner_of, each, apart}
use Rattle.machine.specs.Worked.{pair, ask}
use Rattle.laws.proofs.Laid.{plain_setting, legal_laid, tells_layout}
use Rattle.laws.proofs.Step.{legal_step, legal_after}
use Rattle.lists.proofs.Tests.{outside_false}
use Rattle.laws.proofs.Unique.{image_alone}
use Rattle.answers.specs.Promise.{with_listing}
use Rattle.monitor.specs.Promise.{Called}
use Rattle.listing.proofs.ListStep.{list_done}

-- ---- a table: process 1 with two buffers and process 2 run
abbrev machine : Machine
machine = after (laid 0 [] pair) (Start 1 ∷ Start 2 ∷ [])

abbrev table : List ℕ
table = image machine

legal : Legal machine
unfolding each apart sum
legal = legal_after (legal_laid [] 0 [] plain_setting pair ((tells_layout pair).holds refl)) (Start 1 ∷ Start 2 ∷ [])

none_beyond : machine.beyond ≡ []
unfolding after laid_over step refusal first effect same
none_beyond = refl

shown : Shows table machine
shown = image_alone none_beyond

-- what a legal send has to answer: buffer 1, and 1 is current
module _ {u s v : List ℕ} {r : Reply} (c : Called table u s v 1 2 0 ask r) where
  sent : r ≡ record { number = 0; kind = 0; buffer = 1; current = 1; words = zeros }
  unfolding request after laid_over step without enter from keep fold first refusal effect sum same given owner_of
  sent = (c.sound machine shown legal).answer

  pub not_refusing : (r.number ≡ 0 → ⊥) → ⊥
  not_refusing n = n (ap (λ (x : Reply). x.number) sent)

  -- the same answer to a tick
  pub not_fixed : {u' s' v' : List ℕ} → Called table u' s' v' 9 0 0 zeros r → ⊥
  unfolding request after laid_over step without enter from keep fold first refusal effect sum same given owner_of
  not_fixed d =
      let e : r ≡ record { number = 0; kind = 0; buffer = 0; current = 1; words = zeros } = (d.sound machine shown legal).answer in
      omega (arith, ap (λ (x : Reply). x.buffer) sent, ap (λ (x : Reply). x.buffer) e)

  pub not_idle : u ≡ table → ⊥
  unfolding request after laid_over step without enter from keep fold first refusal effect sum same given owner_of
  not_idle e =
      let w = (c.sound machine shown legal).words in
      omega (arith, shown.table.at (Buffer 1 4) (omega arith), rw e at (w.table.at (Buffer 1 4) (omega arith)))

  -- ---- after one send, and after two
  abbrev once : Machine
  once = (step machine (Send 2 ask)).machine

  once_shown : Shows u once
  unfolding request
  once_shown = (c.sound machine shown legal).words

  -- the listing of process 1 has one row
  pub not_empty : {u' s' v' : List ℕ} {r' : Reply} → row_width ≤ length s' → Called u u' s' v' 11 1 0 zeros r'
      → (r'.kind ≡ 1) × (v' ≡ with_listing (1 ∷ 1 ∷ 2 ∷ 1 ∷ 0 ∷ []) s')
  unfolding request after laid_over step without enter from keep fold first refusal rows effect sum same given owner_of
  not_empty {s'} h d =
      let L = legal_step legal (Send 2 ask) in
      let e = list_done once 1 (length s') refl h in (
        ap (λ (x : Reply). x.kind) (d.sound once once_shown L).answer ∙ ap (λ (o : Outcome). o.answer.kind) e,
        d.room once once_shown L
            ∙ ap (λ (o : Outcome). with_listing o.listing s') e,
      )

  module _ {u' s' v' : List ℕ} {r' : Reply} (d : Called u u' s' v' 1 2 0 ask r') where
    -- it has two
    pub not_pretending : {u'' s'' v'' : List ℕ} {r'' : Reply} → row_width * 2 ≤ length s'' → Called u' u'' s'' v'' 11 1 0 zeros r''
        → (r''.kind ≡ 2) × (v'' ≡ with_listing (1 ∷ 1 ∷ 2 ∷ 1 ∷ 0 ∷ 2 ∷ 1 ∷ 2 ∷ 1 ∷ 0 ∷ []) s'')
    unfolding request after laid_over step without enter from keep fold first refusal rows effect sum same given owner_of
    not_pretending {s''} h e =
        let L = legal_step (legal_step legal (Send 2 ask)) (Send 2 ask) in
        let twice : Machine = (step once (Send 2 ask)).machine in
        let w : Shows u' twice = (d.sound once once_shown (legal_step legal (Send 2 ask))).words in
        let k = list_done twice 1 (length s'') refl h in (
          ap (λ (x : Reply). x.kind) (e.sound twice w L).answer ∙ ap (λ (o : Outcome). o.answer.kind) k,
          e.room twice w L
              ∙ ap (λ (o : Outcome). with_listing o.listing s'') k,
        )

-- ---- counts
module _ {t u s v : List ℕ} {a b : ℕ} {ws : Words} {r : Reply} {m : Machine} (w : Shows t m) (L : Legal m) where
  -- a tick counts the delays that end
  pub tick_counts : Called t u s v 9 a b ws r → r.kind ≡ length (expiring m)
  unfolding request step refusal effect
  tick_counts c = ap (λ (x : Reply). x.kind) (c.sound m w L).answer

  -- a clean counts the standings that change
  pub clean_counts : Range m.P a → Called t u s v 8 a b ws r → r.kind ≡ length (keep (changes m a) (buffers m))
  unfolding request step refusal first effect
  clean_counts i c = ap (λ (x : Reply). x.kind) (c.sound m w L).answer ∙ simp (outside_false m.P a i)
