-- What the promises come to: any two results that one of them allows are equal. Assumes nothing.
use mathlib.Core.List.{List, []}
use mathlib.Core.Path.{◌≡◌, refl, sym, ap, ◌∙◌}
use Prim.Native.Nat.{ℕ, ◌*◌, ◌≤◌}
use native.Mathlib.Omega.{arith}
use lib.ListN.{length, take}
use lib.Dec.{leb}
use lib.Seq.{length-sets, length-take-le}
use Rattle.lists.proofs.Tests.{either}
use Rattle.laws.proofs.Unique.{unique}
use Rattle.machine.specs.Layout.{Entry}
use Rattle.text.specs.Cut.{cut}
use Rattle.lines.specs.Line.{Shape, LayoutEntry, Ask, Other}
use Rattle.lines.specs.Replay.{State, Gathering, Running, Ended, turn, five}
use Rattle.turn.specs.declared.blocks.Fed.{Fed}
use Rattle.turn.specs.declared.blocks.Reader.{Reader}
use Rattle.turn.specs.declared.Progress.{Progress}
use Rattle.turn.specs.declared.Progress.TheVariants.{Gathering as Gathers, Running as Runs, Ended as HasEnded}
use Rattle.turn.specs.declared.Run.{Run}
use Rattle.turn.specs.InWords.{InWords, InTable, Written, Ready, gathering, list_with, list_after, finished, TakesTurn, Finishes}
use Rattle.turn.specs.Begun.{Begun}
use Rattle.turn.specs.Feed.{reach, ends, has_end, first_line, AtPoint, Feeds, Closes, TakesEnd, Reading}
use Rattle.turn.proofs.Storing.{stored_count}

-- ---- the parts
table_determined : (s : State) (t u : List ℕ) → InTable s t → InTable s u → t ≡ u
table_determined (Gathering ws) t u a b = a ∙ sym b
table_determined (Running m) t u a b = unique a.0 b.0
table_determined Ended t u a b = a ∙ sym b

-- of one list; the state says the rest
in_words_determined : (s : State) (t u l : List ℕ) (p q : Progress) → length l ≡ 165 → InWords s t l p → InWords s u l q → (t ≡ u) × (p ≡ q)
in_words_determined (Gathering ws) t u l (Gathers n) (Gathers m) h a b =
    (a.0 ∙ sym b.0, ap gathering (stored_count (omega arith) (omega arith) (omega arith) a.1 b.1))
in_words_determined (Gathering ws) t u l (Gathers n) Runs h a b = absurd b
in_words_determined (Gathering ws) t u l (Gathers n) HasEnded h a b = absurd b
in_words_determined (Gathering ws) t u l Runs q h a b = absurd a
in_words_determined (Gathering ws) t u l HasEnded q h a b = absurd a
in_words_determined (Running m) t u l (Gathers n) q h a b = absurd a
in_words_determined (Running m) t u l Runs (Gathers n) h a b = absurd b
in_words_determined (Running m) t u l Runs Runs h a b = (unique a.0 b.0, refl)
in_words_determined (Running m) t u l Runs HasEnded h a b = absurd b
in_words_determined (Running m) t u l HasEnded q h a b = absurd a
in_words_determined Ended t u l (Gathers n) q h a b = absurd a
in_words_determined Ended t u l Runs q h a b = absurd a
in_words_determined Ended t u l HasEnded (Gathers n) h a b = absurd b
in_words_determined Ended t u l HasEnded Runs h a b = absurd b
in_words_determined Ended t u l HasEnded HasEnded h a b = (a ∙ sym b, refl)

written_determined : {before l after after' : List ℕ} {at next next' : ℕ} → Written before at l after next → Written before at l after' next'
    → (after ≡ after') × (next ≡ next')
written_determined a b = (a.put.bytes ∙ sym b.put.bytes, a.place ∙ sym b.place)

list_with_length : (p : Progress) (e : Entry) (l : List ℕ) → length (list_with p e l) ≡ length l
list_with_length (Gathers n) e l = either (λ (r : List ℕ). length r ≡ length l) (leb n 32) (λ t. length-sets l _ (five e)) (λ t. refl)
list_with_length Runs e l = refl
list_with_length HasEnded e l = refl

list_length : (p : Progress) (x : Shape) (l : List ℕ) → length (list_after p x l) ≡ length l
unfolding list_after
list_length p (LayoutEntry e) l = list_with_length p e l
list_length p (Ask k a b ws) l = refl
list_length p Other l = refl

-- ---- one line
module _ {t before : List ℕ} {at : ℕ} {w : Run} (y : Ready t w.list before at w.progress) (long : length w.list ≡ 165) where
  pub turn_determines : {x : Shape} {t₁ o₁ t₂ o₂ : List ℕ} {w₁ w₂ : Run} {n₁ n₂ : ℕ} → TakesTurn x t w t₁ w₁ before at o₁ n₁
      → TakesTurn x t w t₂ w₂ before at o₂ n₂
      → (t₁ ≡ t₂) × (w₁.list ≡ w₂.list) × (w₁.room ≡ w₂.room) × (o₁ ≡ o₂) × (w₁.progress ≡ w₂.progress) × (n₁ ≡ n₂)
  turn_determines {x} {t₁} {t₂ = t₂} {w₁ = w₁} {w₂} a b =
      let e = a.list ∙ sym b.list in
      let c = a.leads y.state y.in_words in
      let d = b.leads y.state y.in_words in
      let same : InWords (turn y.state x).state t₂ w₁.list w₂.progress = rw e d.in_words in
      let k = in_words_determined (turn y.state x).state t₁ t₂ w₁.list w₁.progress w₂.progress
      (ap length a.list ∙ list_length w.progress x w.list ∙ long) c.in_words same in
      let z = written_determined c.written d.written in (
        k.0,
        e,
        a.room y.state y.in_words ∙ sym (b.room y.state y.in_words),
        z.0,
        k.1,
        z.1,
      )

-- the end of the input
pub finish_determines : {state : State} {u u' before after after' : List ℕ} {at next next' : ℕ} → Finishes state u before at after next
    → Finishes state u' before at after' next'
    → (u ≡ u') × (after ≡ after') × (next ≡ next')
finish_determines {state} {u} {u'} a b =
    let w = written_determined a.written b.written in
    (table_determined (finished state) u u' a.table b.table, w.0, w.1)

close_written : {state : State} {begun u u' before after after' : List ℕ} {at next next' : ℕ} → Closes state begun u before at after next
    → Closes state begun u' before at after' next' → (u ≡ u') × (after ≡ after') × (next ≡ next')
close_written {state} {begun} {u} {u'} a b =
    let w = written_determined a.written b.written in
    (table_determined (ends state (cut begun [])) u u' a.table b.table, w.0, w.1)

-- ---- the bytes of one line
-- the buffer has a line begun
a_line : (line : List ℕ) (n : ℕ) → length line ≡ 27 → n ≤ 27 → Begun (take n line) line n
a_line line n h f =
    record { few = f; words = λ k. (let e : 1 * n ≡ n = omega arith in rw e); many = λ k. omega (arith, length-take-le n line (omega arith)) }

module _ {t before : List ℕ} {w : Reader} {at : ℕ} (y : Reading t w before at) (long : length w.run.list ≡ 165) where
  pub close_determines : {t₁ o₁ t₂ o₂ : List ℕ} {w₁ w₂ : Reader} {n₁ n₂ : ℕ} → TakesEnd t w t₁ w₁ before at o₁ n₁
      → TakesEnd t w t₂ w₂ before at o₂ n₂ → (t₁ ≡ t₂) × (w₁.run.list ≡ w₂.run.list) × (w₁.run.room ≡ w₂.run.room) × (o₁ ≡ o₂) × (n₁ ≡ n₂)
  close_determines a b =
      let begun = take w.begun.len w.begun.bytes in
      let z = a_line w.begun.bytes w.begun.len w.begun.few.0 w.begun.few.1 in
      let x = close_written (a.closes y.state begun y.in_words z) (b.closes y.state begun y.in_words z) in
      (x.0, a.list begun z ∙ sym (b.list begun z), a.room y.state begun y.in_words z ∙ sym (b.room y.state begun y.in_words z), x.1, x.2)

  -- everything but what stands in the line's buffer behind the line begun
  pub feed_determines : {block t₁ o₁ t₂ o₂ : List ℕ} {w₁ w₂ : Reader} {r₁ r₂ : Fed}
      → Feeds t w block t₁ w₁ before at o₁ r₁ → Feeds t w block t₂ w₂ before at o₂ r₂
      → (t₁ ≡ t₂) × (w₁.run.list ≡ w₂.run.list) × (w₁.run.room ≡ w₂.run.room) × (o₁ ≡ o₂) × (w₁.run.progress ≡ w₂.run.progress)
      × (w₁.begun.len ≡ w₂.begun.len) × (r₁ ≡ r₂)
  feed_determines {block} {t₁} {o₁} {t₂} {o₂} {w₁} {w₂} {r₁} {r₂} a b =
      let begun = take w.begun.len w.begun.bytes in
      let z = a_line w.begun.bytes w.begun.len w.begun.few.0 w.begun.few.1 in
      let taken = a.taken ∙ sym b.taken in
      let e = a.list begun z ∙ sym (b.list begun z) in
      let c = a.comes y.state begun y.in_words z in
      let d : AtPoint (reach y.state begun (take r₁.taken block)) t₂ w₁.run.list w₂.run.progress w₂.begun.bytes w₂.begun.len before at o₂ r₂.next =
      rw (taken, e) (b.comes y.state begun y.in_words z) in
      let after : length w₁.run.list ≡ 165 = ap length (a.list begun z)
      ∙ either (λ (k : List ℕ). length k ≡ length w.run.list) (has_end block) (λ _. list_length w.run.progress (first_line begun block) w.run.list) (λ _. refl)
      ∙ long in
      let k = in_words_determined (reach y.state begun (take r₁.taken block)).state t₁ t₂ w₁.run.list w₁.run.progress w₂.run.progress after
      c.in_words d.in_words in
      let x = written_determined c.written d.written in (
        k.0,
        e,
        a.room y.state begun y.in_words z ∙ sym (b.room y.state begun y.in_words z),
        x.0,
        k.1,
        stored_count (omega arith) (omega (arith, w₁.begun.few.0)) (omega (arith, w₂.begun.few.0)) c.stored d.stored,
        ap (λ i. record { taken = i; next = r₁.next }) taken ∙ ap (λ i. record { taken = r₂.taken; next = i }) x.1,
      )
