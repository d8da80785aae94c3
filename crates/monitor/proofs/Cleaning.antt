-- docs/MONITOR.md, 11, of what the code promises: cleaning a process a second time changes no word and gives kind 0, and cleaning two in either order leaves
-- every process with the same listing, and every word the same but the links and ends of third event queues and the running queue. Assumes nothing.
use mathlib.Core.Path.{◌≡◌, sym, ap, subst, ◌∙◌}
use mathlib.Core.List.{List}
use Prim.Native.Nat.{ℕ}
use native.Mathlib.Omega.{arith}
use lib.ListN.{length}
use Rattle.machine.specs.Queue.{Range}
use Rattle.machine.specs.Machine.{Machine, Words}
use Rattle.machine.specs.Request.{request, Clean}
use Rattle.machine.specs.Refusal.{first, refusal}
use Rattle.machine.specs.Step.{Answer as Reply, Outcome, cleaned, effect, step}
use Rattle.machine.specs.Legal.{Legal}
use Rattle.machine.specs.Words.{Shows}
use Rattle.machine.specs.Sound.{Sound}
use Rattle.lists.proofs.Tests.{inside, outside_false, passes}
use Rattle.laws.proofs.Bridge.{sound_shows}
use Rattle.laws.proofs.Unique.{unique}
use Rattle.laws.proofs.Dispatch.{step_number}
use Rattle.laws.proofs.Cleans.{cleaned_cleaning}
use Rattle.laws.proofs.Cleaned.{cleaned_size}
use Rattle.theorems.proofs.Cleaning.{second_clean, second_kind, either_listing}
use Rattle.theorems.proofs.CleanOrder.{either_machine}
use Rattle.theorems.proofs.CleanShown.{same_words}
use Rattle.theorems.specs.SameBut.{SameWords}
use Rattle.answers.specs.Promise.{with_listing}
use Rattle.monitor.specs.Promise.{Called}
use Rattle.monitor.specs.Cleans.{Cleans}

-- ---- one clean
-- it is accepted of a process, and of no other number
is_process : (m : Machine) (p : ℕ) → (step m (Clean p)).answer.number ≡ 0 → Range m.P p
unfolding refusal
is_process m p e = inside m.P p (passes _ (omega arith) (sym (step_number m (Clean p)) ∙ e)).0

cleans_so : (m : Machine) {p : ℕ} → Range m.P p → step m (Clean p) ≡ effect m (Clean p)
unfolding step refusal first
cleans_so m {p} i = rw (outside_false m.P p i)

-- words that show m, and p cleaned on them
module _ {t u : List ℕ} {p : ℕ} {m : Machine} (w : Shows t m) (L : Legal m) (c : Cleans t p u) where
  process : Range m.P p
  unfolding request
  process = is_process m p (sym (ap (λ (x : Reply). x.number) (c.called.sound m w L).answer) ∙ c.accepted)

  leaves : Shows u (cleaned p m)
  unfolding request effect
  leaves = subst (λ (o : Outcome). Shows u o.machine) (cleans_so m process) (c.called.sound m w L).words

  stays_legal : Legal (cleaned p m)
  stays_legal = (cleaned_cleaning L process).legal

  -- it is a process still, and whatever process there was
  still_there : {q : ℕ} → Range m.P q → Range (cleaned p m).P q
  still_there i = rw (cleaned_size p m).1 i

-- ---- a second time
module _ {t u u' s v : List ℕ} {p b : ℕ} {ws : Words} {r : Reply} (S : Sound t) (c : Cleans t p u) (d : Called u u' s v 8 p b ws r) where
  again : (m : Machine) → Shows t m → Legal m → step (cleaned p m) (Clean p) ≡ effect (cleaned p m) (Clean p)
  again m w L = cleans_so (cleaned p m) (still_there w L c (process w L c))

  -- "changes no word"
  pub second_words : u' ≡ u
  unfolding request effect
  second_words =
      let (m, w, L) = sound_shows S in
      let x = leaves w L c in
      let y = (d.sound (cleaned p m) x (stays_legal w L c)).words in
      unique (subst (Shows u') (ap (λ (o : Outcome). o.machine) (again m w L) ∙ second_clean L (process w L c)) y) x

  -- "and gives kind 0": it is accepted, as the first was
  pub second_answer : (r.number ≡ 0) × (r.kind ≡ 0)
  unfolding request effect
  second_answer =
      let (m, w, L) = sound_shows S in
      let e = (d.sound (cleaned p m) (leaves w L c) (stays_legal w L c)).answer ∙ ap (λ (o : Outcome). o.answer) (again m w L) in
      (ap (λ (x : Reply). x.number) e, ap (λ (x : Reply). x.kind) e ∙ second_kind L (process w L c))

-- ---- either order
module _ {t u x y z : List ℕ} {p q : ℕ} (S : Sound t) (apart : p ≡ q → ⊥) (c : Cleans t p u) (d : Cleans u q x) (e : Cleans t q y) (f : Cleans y p z) where
  -- call 0B for any process, in the same room, gives the same number, kind and rows
  pub either_order : {x' z' s v v' : List ℕ} {a b b' : ℕ} {ws ws' : Words} {r r' : Reply}
      → Called x x' s v 11 a b ws r → Called z z' s v' 11 a b' ws' r' → (r.number ≡ r'.number) × (r.kind ≡ r'.kind) × (v ≡ v')
  unfolding request
  either_order {s = s} {a = a} g h =
      let (m, w, L) = sound_shows S in
      let M = stays_legal w L c in
      let N = stays_legal w L e in
      let one = leaves (leaves w L c) M d in
      let other = leaves (leaves w L e) N f in
      let k = stays_legal (leaves w L c) M d in
      let j = stays_legal (leaves w L e) N f in
      let same = either_listing m p q apart a (length s) in
      let i = (g.sound _ one k).answer in
      let o = (h.sound _ other j).answer in (
        ap (λ (x : Reply). x.number) i ∙ same.number ∙ sym (ap (λ (x : Reply). x.number) o),
        ap (λ (x : Reply). x.kind) i ∙ same.kind ∙ sym (ap (λ (x : Reply). x.kind) o),
        g.room _ one k ∙ ap (λ (l : List ℕ). with_listing l s) same.rows ∙ sym (h.room _ other j),
      )

  -- "both orders agree in every word but the links and ends of third processes' event queues and of the running queue"
  pub either_words : SameWords p q x z
  either_words =
      let (m, w, L) = sound_shows S in
      let i = process w L c in
      let j = process w L e in
      let M = stays_legal w L c in
      let N = stays_legal w L e in
      let v = leaves w L c in
      let k = leaves w L e in
      same_words (either_machine L p q apart i j) (stays_legal v M d) (stays_legal k N f) (leaves v M d) (leaves k N f)
      (still_there v M d (still_there w L c i)) (still_there v M d (still_there w L c j))
