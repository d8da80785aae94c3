-- The words by name: what is read after a write, and the tests on the size. Assumes nothing.
use mathlib.Core.Path.{◌≡◌, refl, sym, ap, ap₂, ◌∙◌}
use mathlib.Core.Bool.{Bool, true, false}
use mathlib.Core.List.{List}
use Prim.Native.Nat.{ℕ, zero, suc, ◌+◌, ◌-◌, ◌*◌, ◌≤◌, ◌<◌}
use native.Mathlib.Omega.{arith}
use lib.ListN.{length, get_or, length-set, get_or-eq_default}
use lib.Seq.{sets, get_or-set_other}
use lib.Dec.{eqb, leb}
use borrow.Author.Tests.{le-leb, lt-leb, leb-true, eq-eqb, ne_eqb, eqb-false}
use Rattle.lists.proofs.Tests.{either, and_true}
use Rattle.delays.specs.Words.{P_of, next, difference, put_next, put_difference, sized, Sized, sum, sought, place, later, earlier, unlinked, linked}
use Rattle.delays.specs.Words.{gone, entered, waited, left, refusal, unless, make_refusal, tick_refusal, fallen, due, rest, woken, ticked}
use Rattle.delays.specs.Words.{ordered, shown, number_of_refusal, Gathers, Makes, Ticks}
use Rattle.delays.specs.declared.list.Spot.{Spot}
use Rattle.delays.specs.declared.list.Due.{Due}
use Rattle.delays.specs.declared.refusal.Refusal.{Refusal}
use Rattle.delays.specs.declared.refusal.Refusal.TheVariants.{NoQueue, NoSuchProcess, RoomTooShort, WrongNumber, WordsTooFew}

-- ---- the size
pub sized_tells : (t : List ℕ) → sized t ≡ true → Sized t
unfolding sized
sized_tells t e =
    let a = and_true {a = leb 1 (P_of t)} e in
    let b = and_true {a = leb (P_of t) 32} a.1 in
    record { some = leb-true 1 (P_of t) a.0; few = leb-true (P_of t) 32 b.0; long = leb-true (2 + 2 * P_of t) (length t) b.1 }

pub sized_back : (t : List ℕ) → Sized t → sized t ≡ true
unfolding sized
sized_back t s = rw (le-leb 1 (P_of t) s.some, le-leb (P_of t) 32 s.few, le-leb (2 + 2 * P_of t) (length t) s.long)

pub sized_short : (t : List ℕ) → length t < 2 → false ≡ sized t
unfolding sized
sized_short t h = rw (get_or-eq_default t 0 {n = 1} (omega arith))

pub shown_unsized : (t : List ℕ) → sized t ≡ false → false ≡ shown t
unfolding shown
shown_unsized t e = rw e

pub shown_sized : (t : List ℕ) {r : Bool} → sized t ≡ true → r ≡ ordered t (P_of t) 0 0 → r ≡ shown t
unfolding shown
shown_sized t e f = f ∙ rw e

-- ---- reading
pub next_none : (t : List ℕ) (p : ℕ) → P_of t < get_or t (2 * p) 0 → 0 ≡ next t p
unfolding next
next_none t p h = rw (lt-leb (get_or t (2 * p) 0) (P_of t) h)

pub next_link : (t : List ℕ) (p : ℕ) → get_or t (2 * p) 0 ≤ P_of t → get_or t (2 * p) 0 ≡ next t p
unfolding next
next_link t p h = rw (le-leb (get_or t (2 * p) 0) (P_of t) h)

pub sum_under : (a b : ℕ) → a + b ≤ 65535 → a + b ≡ sum a b
unfolding sum
sum_under a b h = rw (le-leb (a + b) 65535 h)

pub sum_over : (a b : ℕ) → 65535 < a + b → 65535 ≡ sum a b
unfolding sum
sum_over a b h = rw (lt-leb (a + b) 65535 h)

-- ---- after a write
pub P_put_next : (t : List ℕ) (p v : ℕ) → P_of (put_next p v t) ≡ P_of t
P_put_next t p v = get_or-set_other t (2 * p) 1 v 0 (λ e. omega arith)

pub P_put_difference : (t : List ℕ) (p v : ℕ) → 1 ≤ p → P_of (put_difference p v t) ≡ P_of t
P_put_difference t p v h = get_or-set_other t (2 * p + 1) 1 v 0 (λ e. omega arith)

pub size_put_next : {t : List ℕ} (p v : ℕ) → Sized t → Sized (put_next p v t)
size_put_next {t} p v s =
    let e = P_put_next t p v in
    let l = length-set t (2 * p) v in
    record { some = omega arith; few = omega arith; long = omega arith }

pub size_put_difference : {t : List ℕ} (p v : ℕ) → 1 ≤ p → Sized t → Sized (put_difference p v t)
size_put_difference {t} p v h s =
    let e = P_put_difference t p v h in
    let l = length-set t (2 * p + 1) v in
    record { some = omega arith; few = omega arith; long = omega arith }

-- ---- x ends later or earlier
pub later_none : (t : List ℕ) (x d : ℕ) → x ≡ 0 → t ≡ later x d t
later_none t x d e = rw (eq-eqb x 0 e)

pub later_some : (t : List ℕ) (x d : ℕ) {c s : ℕ} {u : List ℕ} → (x ≡ 0 → ⊥) → c ≡ difference t x → s ≡ sum c d → u ≡ put_difference x s t → u ≡ later x d t
later_some t x d h e f g = g ∙ ap (λ (y : ℕ). put_difference x y t) (f ∙ ap (λ (y : ℕ). sum y d) e) ∙ rw (ne_eqb x 0 h)

pub earlier_none : (t : List ℕ) (x d : ℕ) → x ≡ 0 → t ≡ earlier x d t
earlier_none t x d e = rw (eq-eqb x 0 e)

pub earlier_some : (t : List ℕ) (x d : ℕ) → (x ≡ 0 → ⊥) → put_difference x (difference t x - d) t ≡ earlier x d t
earlier_some t x d h = rw (ne_eqb x 0 h)

-- ---- the words u, after a write to the words t
pub record Same (t u : List ℕ) : Type 0 where
  pub size : Sized u
  pub processes : P_of u ≡ P_of t

pub same_trans : {t u v : List ℕ} → Same t u → Same u v → Same t v
same_trans a b = record { size = b.size; processes = b.processes ∙ a.processes }

pub after_next : (t : List ℕ) (p v : ℕ) {u : List ℕ} → u ≡ put_next p v t → Sized t → Same t u
after_next t p v {u} e s = rw e (record { size = size_put_next p v s; processes = P_put_next t p v })

pub after_difference : (t : List ℕ) (p v : ℕ) {u : List ℕ} → u ≡ put_difference p v t → 1 ≤ p → Sized t → Same t u
after_difference t p v {u} e h s = rw e (record { size = size_put_difference p v h s; processes = P_put_difference t p v h })

pub next_small : (t : List ℕ) (p : ℕ) → next t p ≤ P_of t
unfolding next
next_small t p = either (λ (x : ℕ). x ≤ P_of t) (leb (get_or t (2 * p) 0) (P_of t)) (λ e. leb-true (get_or t (2 * p) 0) (P_of t) e) (λ e. omega arith)

pub same_later : (t : List ℕ) (x d : ℕ) → Sized t → Same t (later x d t)
same_later t x d s =
    either (Same t) (eqb x 0)
    (λ e. record { size = s; processes = refl })
    (λ e. after_difference t x (sum (difference t x) d) refl (omega (arith, eqb-false x 0 e)) s)

pub same_earlier : (t : List ℕ) (x d : ℕ) → Sized t → Same t (earlier x d t)
same_earlier t x d s =
    either (Same t) (eqb x 0)
    (λ e. record { size = s; processes = refl })
    (λ e. after_difference t x (difference t x - d) refl (omega (arith, eqb-false x 0 e)) s)

pub same_unlinked : (t : List ℕ) (b p : ℕ) → Sized t → Same t (unlinked b p t)
same_unlinked t b p s = let a = after_next t b (next t p) refl s in same_trans a (same_later _ (next t p) (difference t p) a.size)

pub same_gone : (t : List ℕ) (p : ℕ) → Sized t → Same t (gone p t)
unfolding gone
same_gone t p s =
    either (Same t) (eqb (next t (sought t p).before) p)
    (λ e. same_unlinked t (sought t p).before p s)
    (λ e. record { size = s; processes = refl })

pub same_linked : (t : List ℕ) (b c p : ℕ) → 1 ≤ p → Sized t → Same t (linked b c p t)
same_linked t b c p h s =
    let x = after_next t p (next t b) refl s in
    let y = after_difference _ p c refl h x.size in
    let z = after_next _ b p refl y.size in
    same_trans x (same_trans y (same_trans z (same_earlier _ (next t b) c z.size)))

-- ---- refusals
pub unless_refused : {A : Type 0} (n : ℕ) (u t : A) → (n ≡ 0 → ⊥) → t ≡ unless n u t
unless_refused zero u t h = absurd (h refl)
unless_refused (suc n) u t h = refl

pub unless_passed : {A : Type 0} (n : ℕ) (u t : A) → n ≡ 0 → u ≡ unless n u t
unless_passed n u t e = rw e

module _ (t : List ℕ) (p : ℕ) where
  pub refusal_unsized : sized t ≡ false → 1 ≡ refusal t p
  unfolding refusal
  refusal_unsized e = rw e

  pub refusal_zero : sized t ≡ true → p ≡ 0 → 4 ≡ refusal t p
  unfolding refusal
  refusal_zero e z = rw (e, z)

  pub refusal_above : sized t ≡ true → (p ≡ 0 → ⊥) → P_of t < p → 4 ≡ refusal t p
  unfolding refusal
  refusal_above e z h = rw (e, le-leb 1 p (omega arith), lt-leb p (P_of t) h)

  pub refusal_none : sized t ≡ true → (p ≡ 0 → ⊥) → p ≤ P_of t → 0 ≡ refusal t p
  unfolding refusal
  refusal_none e z h = rw (e, le-leb 1 p (omega arith), le-leb p (P_of t) h)

-- ---- the parts of a call
module _ (t : List ℕ) (p : ℕ) where
  pub gone_not : {b x : ℕ} → b ≡ (sought t p).before → x ≡ next t b → (x ≡ p → ⊥) → t ≡ gone p t
  unfolding gone
  gone_not {b} {x} e f h = rw (ne_eqb (next t (sought t p).before) p (λ z. h (f ∙ ap (next t) e ∙ z)))

  pub gone_there : {b x : ℕ} → b ≡ (sought t p).before → x ≡ next t b → x ≡ p → unlinked b p t ≡ gone p t
  unfolding gone
  gone_there {b} {x} e f h = ap (λ (y : ℕ). unlinked y p t) e ∙ rw (eq-eqb (next t (sought t p).before) p (sym (f ∙ ap (next t) e) ∙ h))

  pub left_not : {b x : ℕ} → b ≡ (sought t p).before → x ≡ next t b → (x ≡ p → ⊥) → 0 ≡ left t p
  unfolding left
  left_not {b} {x} e f h = rw (ne_eqb (next t (sought t p).before) p (λ z. h (f ∙ ap (next t) e ∙ z)))

  pub left_there : {b x : ℕ} → b ≡ (sought t p).before → x ≡ next t b → x ≡ p → sum (sought t p).time (difference t p) ≡ left t p
  unfolding left
  left_there {b} {x} e f h = rw (eq-eqb (next t (sought t p).before) p (sym (f ∙ ap (next t) e) ∙ h))

  pub waited_none : {d : ℕ} → d ≡ 0 → gone p t ≡ waited p d t
  unfolding waited
  waited_none {d} e = rw (eq-eqb d 0 e)

  pub waited_some : {d : ℕ} → (d ≡ 0 → ⊥) → entered p d (gone p t) ≡ waited p d t
  unfolding waited
  waited_some {d} e = rw (ne_eqb d 0 e)

  pub entered_at : (d : ℕ) {s : Spot} → s ≡ place t p d → linked s.before s.time p t ≡ entered p d t
  unfolding entered
  entered_at d {s} e = ap (λ (x : Spot). linked x.before x.time p t) e

-- p linked in behind b, write by write
pub linked_by : (t : List ℕ) (b d p : ℕ) {x : ℕ} {u v w z : List ℕ} → x ≡ next t b → u ≡ put_next p x t → v ≡ put_difference p d u → w ≡ put_next b p v
    → z ≡ earlier x d w → z ≡ linked b d p t
linked_by t b d p {x} e f g h i =
    i ∙ ap (earlier x d) (h ∙ ap (put_next b p) (g ∙ ap (put_difference p d) f))
    ∙ ap (λ (y : ℕ). earlier y d (put_next b p (put_difference p d (put_next p y t)))) e

-- ---- making an empty queue
module _ (t : List ℕ) (P : ℕ) where
  pub make_none : P ≡ 0 → 11 ≡ make_refusal t P
  unfolding make_refusal
  make_none e = rw e

  pub make_many : (P ≡ 0 → ⊥) → 32 < P → 11 ≡ make_refusal t P
  unfolding make_refusal
  make_many z h = rw (le-leb 1 P (omega arith), lt-leb P 32 h)

  pub make_short : (P ≡ 0 → ⊥) → P ≤ 32 → length t < 2 + 2 * P → 12 ≡ make_refusal t P
  unfolding make_refusal
  make_short z h l = rw (le-leb 1 P (omega arith), le-leb P 32 h, lt-leb (2 + 2 * P) (length t) l)

  pub make_passes : (P ≡ 0 → ⊥) → P ≤ 32 → 2 + 2 * P ≤ length t → 0 ≡ make_refusal t P
  unfolding make_refusal
  make_passes z h l = rw (le-leb 1 P (omega arith), le-leb P 32 h, le-leb (2 + 2 * P) (length t) l)

-- ---- a tick
module _ (t : List ℕ) (n : ℕ) where
  pub tick_unsized : sized t ≡ false → 1 ≡ tick_refusal t n
  unfolding tick_refusal
  tick_unsized e = rw e

  pub tick_short : sized t ≡ true → n < P_of t → 10 ≡ tick_refusal t n
  unfolding tick_refusal
  tick_short e h = rw (e, lt-leb (P_of t) n h)

  pub tick_passes : sized t ≡ true → P_of t ≤ n → 0 ≡ tick_refusal t n
  unfolding tick_refusal
  tick_passes e h = rw (e, le-leb (P_of t) n h)

-- from the words t over the words f to the words u, with the room s, which became v
module _ {t f u s v : List ℕ} {x : ℕ} {r : Due} (size : Sized t) (i : x ≡ next t 0) (e : f ≡ earlier x 1 t) (g : Gathers f s v x r)
    (w : u ≡ put_next 0 r.rest f) where
  fell : f ≡ fallen t
  fell = e ∙ ap (λ (y : ℕ). earlier y 1 t) i

  all : P_of f ≡ P_of t
  all = ap P_of e ∙ (same_earlier t x 1 size).processes

  woke : due f (P_of f) x ≡ woken t
  unfolding woken
  woke = ap₂ (due f) all i ∙ ap (λ (y : List ℕ). due y (P_of t) (next t 0)) fell

  pub ticks_words : u ≡ ticked t
  unfolding ticked
  ticks_words = w ∙ ap (λ (y : ℕ). put_next 0 y f) (g.rest ∙ ap₂ (rest f) all i) ∙ ap (λ (y : List ℕ). put_next 0 (rest y (P_of t) (next t 0)) y) fell

  pub ticks_room : v ≡ sets s 0 (woken t)
  ticks_room = g.room ∙ ap (sets s 0) woke

  pub ticks_count : r.count ≡ length (woken t)
  ticks_count = g.count ∙ ap length woke

-- ---- refused
pub number_some : (e : Refusal) → number_of_refusal e ≡ 0 → ⊥
number_some NoQueue z = absurd (omega arith)
number_some NoSuchProcess z = absurd (omega arith)
number_some RoomTooShort z = absurd (omega arith)
number_some WrongNumber z = absurd (omega arith)
number_some WordsTooFew z = absurd (omega arith)

pub stays : {A : Type 0} (e : Refusal) {n : ℕ} (u t : A) → number_of_refusal e ≡ n → t ≡ unless n u t
stays e u t f = unless_refused _ u t (λ z. number_some e (f ∙ z))

pub makes_refused : {t : List ℕ} {P : ℕ} (e : Refusal) → number_of_refusal e ≡ make_refusal t P → Makes t t P (number_of_refusal e)
makes_refused e n = record { number = n; words = stays e _ _ n }

pub ticks_done : {t u s v : List ℕ} {n : ℕ} → 0 ≡ tick_refusal t (length s) → n ≡ length (woken t) → u ≡ ticked t → v ≡ sets s 0 (woken t)
    → Ticks t u s v (record { number = 0; count = n })
ticks_done e c w r =
    record {
      number = e;
      count = c ∙ unless_passed _ _ _ (sym e);
      words = w ∙ unless_passed _ _ _ (sym e);
      room = r ∙ unless_passed _ _ _ (sym e);
    }
