-- The answer, of the pass that decides and the one that stores. Assumes nothing.
use mathlib.Core.Bool.{false}
use mathlib.Core.List.{List, [], ◌∷◌, ◌++◌}
use mathlib.Core.Path.{◌≡◌, refl, sym, ap, ◌∙◌}
use Prim.Native.Nat.{ℕ}
use native.Mathlib.Nat.{zero-add}
use native.Mathlib.Omega.{arith}
use lib.Dec.{eqb}
use lib.IntN.{ℤ}
use lib.ListN.{length, take, drop}
use lib.Seq.{sets, sets-eq, take_all}
use borrow.Author.Tests.{eqb-false}
use borrow.Table.Steps.{cases}
use Rattle.std.proofs.lemmas.List.{length-take}
use Rattle.std.specs.Prelude.{Result, Ok, Err}
use Rattle.tape.specs.Tape.{Run, Stops, Runs, Result as Outcome, run, moded, words, status, result, taken}
use Rattle.tape.specs.Promise.{number_of_mode, number_of_refusal, Marks, whole, Based, Converts, Tells, bytes, TellsAndStores}
use Rattle.tape.specs.Promise.{Plain, Operates, refusal, TellsResult}
use Rattle.tape.specs.declared.numbers.Refusal.{Refusal}
use Rattle.tape.specs.declared.parity.Mode.{Mode}
use Rattle.tape.specs.declared.parity.Mode.TheVariants.{Binary, Odd, Even}
use Rattle.tape.specs.declared.passes.Passed.{Passed}
use Rattle.tape.specs.declared.Taken.{Taken}

none_is : (l : List ℕ) → length l ≡ 0 → l ≡ []
none_is [] e = refl
none_is (x ∷ l) e = absurd (omega arith)

-- by words that there are a mode converts
pub counted_converts : {mode b : ℕ} {marks : List ℕ} (table : List ℕ) → Marks marks → (length (words mode table) ≡ 0 → ⊥) → Based b
    → Converts marks mode (words mode table) b
counted_converts {mode} table m h b =
    cases {X = Converts _ mode (words mode table) _} (eqb mode 1) (λ t. absurd (h (rw t)))
    (λ t. record {
      right = m;
      checks = λ e. absurd (eqb-false mode 1 t e);
      some = omega arith;
      few = rw t (omega (arith, length-take 65536 table));
      based = b;
    })

-- ---- the modes
moded_is : (m : Mode) (o : Run) → moded (number_of_mode m) o ≡ o
moded_is Binary o = refl
moded_is Odd o = refl
moded_is Even o = refl

-- ---- what the passes come to
-- all bytes of a run were stored
all_stored : {o : Run} {area after : List ℕ} {p : Passed} → TellsAndStores o area (length area) after (Ok p)
    → after ≡ bytes o ++ drop (length (bytes o)) area
all_stored {o} {area} t =
    let l = bytes o in
    let g : take (length area) l ≡ l = take_all (length area) l t.few in
    let k : sets area 0 l ≡ l ++ drop (length l) area = sets-eq l area 0 (omega (arith, t.few)) ∙ rw (zero-add (length l)) in
    t.stored ∙ rw g k

-- where the pass that decides isn't refused, the one that stores isn't
stored_then : {o : Run} {area mid after : List ℕ} {full : ℕ} {p : Passed} (r : Result Passed Refusal) → TellsAndStores o area full mid (Ok p)
    → TellsAndStores o area (length area) after r → after ≡ bytes o ++ drop (length (bytes o)) area
stored_then (Ok q) t u = all_stored u
stored_then {o = Stops n} (Err e) t u = absurd t.tells
stored_then {o = Runs l n z f} (Err e) t u = absurd u.tells

none_stored : {o : Run} {area mid : List ℕ} {e : Refusal} → TellsAndStores o area 0 mid (Err e) → mid ≡ bytes o ++ drop (length (bytes o)) area
none_stored {o = Stops n} t = t.none refl
none_stored {o = Runs l n z f} t = absurd t.tells

module _ (tape table : List ℕ) (b : ℕ) (area : List ℕ) (m : Mode) where
  abbrev o : Run
  o = run (number_of_mode m) (words (number_of_mode m) table) (whole b) (length area) tape

  comes : {r : Result Passed Refusal} {after : List ℕ} → Tells o r → after ≡ bytes o ++ drop (length (bytes o)) area
      → Operates (number_of_mode m) tape table b area r after
  comes t s = record { tells = rw (moded_is m o) t; stored = rw (moded_is m o) s }

  pub comes_plain : {n : ℕ} {after : List ℕ} → length (words (number_of_mode m) table) ≡ 0 → Based b → Plain (number_of_mode m) tape area after n
      → Operates (number_of_mode m) tape table b area (Ok (record { stored = n; read = n; base = b; parity = false })) after
  comes_plain e h p = let q = rw (← none_is (words (number_of_mode m) table) e) at (p.passes b h) in comes q.tells (all_stored q)

  pub comes_refused : {e : Refusal} {mid : List ℕ} → TellsAndStores o area 0 mid (Err e) → Operates (number_of_mode m) tape table b area (Err e) mid
  comes_refused t = comes t.tells (none_stored t)

  pub comes_done : {p : Passed} {r : Result Passed Refusal} {mid after : List ℕ} → TellsAndStores o area 0 mid (Ok p)
      → TellsAndStores (run (number_of_mode m) (words (number_of_mode m) table) (whole b) (length mid) tape) mid (length area) after r
      → Operates (number_of_mode m) tape table b area r after
  comes_done {r = r} t u = let v = rw (t.none refl) at u in comes v.tells (stored_then r t v)

-- ---- the answer
result_refused : (o : Run) (z : ℤ) (area : List ℕ) {after : List ℕ} (e : Refusal) → Tells o (Err e) → after ≡ bytes o ++ drop (length (bytes o)) area
    → TellsResult (result o z area) (refusal (number_of_refusal e) z) after
result_refused (Stops n) z area e t a = record { number = t; stored = refl; read = refl; base = refl; status = refl; area = a }
result_refused (Runs l n b f) z area e t a = absurd t

result_done : (o : Run) (z : ℤ) (area : List ℕ) {after : List ℕ} (p : Passed) {y : ℤ} {st : ℕ} → Tells o (Ok p)
    → after ≡ bytes o ++ drop (length (bytes o)) area
    → y ≡ whole p.base → st ≡ status p.parity
    → TellsResult (result o z area) (record { number = 0; stored = p.stored; read = p.read; base = y; status = st }) after
result_done (Stops n) z area p t a e s = absurd t
result_done (Runs l n b f) z area p t a e s = record { number = refl; stored = t.0; read = t.1; base = e ∙ t.2; status = s ∙ ap status t.3; area = a }

module _ (mode : ℕ) (tape table : List ℕ) (z : ℤ) (area : List ℕ) {b : ℕ} (h : whole b ≡ z) where
  pub answers_refused : {e : Refusal} {s : Taken} {after : List ℕ} → Operates mode tape table b area (Err e) after → s ≡ refusal (number_of_refusal e) z
      → TellsResult (taken mode tape table z area) s after
  unfolding taken
  answers_refused {e} c f = rw f (result_refused (moded mode (run mode (words mode table) z (length area) tape)) z area e (rw h at c.tells) (rw h at c.stored))

  pub answers_done : {p : Passed} {y : ℤ} {st : ℕ} {after : List ℕ} → Operates mode tape table b area (Ok p) after → y ≡ whole p.base → st ≡ status p.parity
      → TellsResult (taken mode tape table z area) (record { number = 0; stored = p.stored; read = p.read; base = y; status = st }) after
  unfolding taken
  answers_done {p} c e s = result_done (moded mode (run mode (words mode table) z (length area) tape)) z area p (rw h at c.tells) (rw h at c.stored) e s

-- any two answers that the promise allows are equal
abbrev numbers : ℕ → ℕ → ℕ → ℤ → ℕ → Taken
numbers number stored read base status = record { number = number; stored = stored; read = read; base = base; status = status }

pub determined : {o : Outcome} {r s : Taken} {k l : List ℕ} → TellsResult o r k → TellsResult o s l → (r ≡ s) × (k ≡ l)
determined {r = r} {s = s} a b =
    let e : numbers r.number r.stored r.read r.base r.status ≡ numbers s.number s.stored s.read s.base s.status =
    rw (a.number, a.stored, a.read, a.base, a.status, b.number, b.stored, b.read, b.base, b.status) in
    (e, a.area ∙ sym b.area)
