-- Any two results that a promise allows are equal. Assumes nothing.
use mathlib.Core.List.{List}
use mathlib.Core.Path.{◌≡◌, sym, ap, ◌∙◌}
use Prim.Native.Nat.{ℕ, ◌≤◌}
use native.Mathlib.Omega.{arith}
use lib.ListN.{length, drop, length-drop}
use Rattle.compare.specs.Differing.{Compared}
use Rattle.compare.specs.Common.{Front, Behind}
use Rattle.compare.specs.Answer.{found, longer, TellsCompared, Rests, RestsAt}
use Rattle.compare.specs.declared.Found.{Found}

-- `differences`: the answer and the room
pub answers_determined : {c : Compared} {r s : Found} {k l : List ℕ} → TellsCompared c r k → TellsCompared c s l → (r ≡ s) × (k ≡ l)
answers_determined {r = r} {s = s} a b =
    let e : found r.number r.count ≡ found s.number s.count = rw (a.number, a.count, b.number, b.count) in
    (e, a.room ∙ sym b.room)

-- `rest`: the bytes and the pointer
pub rest_determined : {one two k l : List ℕ} {p q s t : ℕ × ℕ} → Rests one p two q k s → Rests one p two q l t → (k ≡ l) × (s ≡ t)
rest_determined {s = s} {t = t} a b =
    let e = a.bytes ∙ sym b.bytes in
    let f : ◌≡◌ {A = ℕ × ℕ} (s.0, s.1) (t.0, t.1) = rw (a.block, a.place, b.block, b.place, e) in
    (e, f)

-- a part up to the end is known by where it begins
same_drop : (l : List ℕ) (m n : ℕ) → m ≤ length l → n ≤ length l → drop m l ≡ drop n l → m ≡ n
same_drop l m n g h e = omega (arith, length-drop m l, length-drop n l, ap length e)

-- `compare_rest`: the log's number and the place
pub rest_at_determined : {one two : List ℕ} {m n r s : ℕ} → RestsAt one two m r → RestsAt one two n s → (m ≡ n) × (r ≡ s)
rest_at_determined {one} {two} {r = r} {s = s} a b =
    (a.log ∙ sym b.log, same_drop (longer one two) r s a.in_log b.in_log (a.bytes ∙ sym b.bytes))

-- `compare_front`: how many bytes
pub front_determined : {one two : List ℕ} {j k : ℕ} → Front one two j → Front one two k → j ≡ k
front_determined {j = j} {k = k} a b = omega (arith, b.longest j a.whole, a.longest k b.whole)

-- `compare_after`: the place
pub behind_determined : {log : List ℕ} {n r s : ℕ} → Behind log n r → Behind log n s → r ≡ s
behind_determined {log} {r = r} {s = s} a b = same_drop log r s a.in_log b.in_log (a.bytes ∙ sym b.bytes)
