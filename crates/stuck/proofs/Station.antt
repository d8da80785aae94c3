-- The rings of a station as the code lists them are what docs/MONITOR.md, 17.1 asks: each once, by its lowest process, with exactly the processes that wait
-- for themselves. Assumes nothing.
use mathlib.Core.Path.{◌≡◌, refl, sym, subst}
use mathlib.Core.Bool.{true}
use mathlib.Core.List.{List, [], ◌∷◌, ◌++◌}
use mathlib.Core.Logic.{◌⊎◌, inl, inr, ⊎_elim}
use Prim.Native.Nat.{ℕ, ◌+◌, ◌*◌, ◌≤◌}
use native.Mathlib.Omega.{arith}
use lib.ListN.{length, length-append}
use Rattle.machine.specs.Queue.{Range, In, Out, Distinct, from}
use Rattle.lists.proofs.Numbers.{in_from, from_in, from_once, in_keep, keep_in, keep_once, keep_rising, few}
use Rattle.stuck.specs.Waiting.{Waiting, Round, StuckInRing, TellsRings}
use Rattle.stuck.specs.Rings.{leads, leaders, ring_of, joined, closed, words_to}
use Rattle.stuck.proofs.Fits.{Fits}
use Rattle.stuck.proofs.Links.{links_then}
use Rattle.stuck.proofs.Visits.{tells_who}
use Rattle.stuck.proofs.Leading.{led_round, led_reached, led_members, leads_low, leads_back, leader}

-- ---- lists one behind the other
in_append : (x : ℕ) (l r : List ℕ) → In x (l ++ r) → In x l ⊎ In x r
in_append x [] r i = inr i
in_append x (y ∷ l) r i = ⊎_elim (λ e. inl (inl e)) (λ j. ⊎_elim (λ k. inl (inr k)) inr (in_append x l r j)) i

append_first : (x : ℕ) (l r : List ℕ) → In x l → In x (l ++ r)
append_first x [] r i = absurd i
append_first x (y ∷ l) r i = ⊎_elim inl (λ j. inr (append_first x l r j)) i

append_second : (x : ℕ) (l r : List ℕ) → In x r → In x (l ++ r)
append_second x [] r i = i
append_second x (y ∷ l) r i = inr (append_second x l r i)

append_once : (l r : List ℕ) → Distinct l → Distinct r → ((x : ℕ) → In x l → Out x r) → Distinct (l ++ r)
append_once [] r d e h = e
append_once (y ∷ l) r d e h = (λ i. ⊎_elim d.0 (h y (inl refl)) (in_append y l r i), append_once l r d.1 e (λ x i. h x (inr i)))

-- ---- the members of rings
module _ (ring : ℕ → List ℕ) where
  record Found (l : List ℕ) (x : ℕ) : Type 0 where
    a : ℕ
    is : In a l
    has : In x (ring a)

  in_joined : (x : ℕ) (l : List ℕ) → In x (joined ring l) → Found l x
  unfolding joined
  in_joined x [] i = absurd i
  in_joined x (a ∷ l) i =
      ⊎_elim (λ j. record { a = a; is = inl refl; has = j }) (λ j. (let f = in_joined x l j in record { a = f.a; is = inr f.is; has = f.has }))
      (in_append x (ring a) (joined ring l) i)

  joined_in : (x a : ℕ) (l : List ℕ) → In a l → In x (ring a) → In x (joined ring l)
  unfolding joined
  joined_in x a [] i j = absurd i
  joined_in x a (b ∷ l) i j =
      ⊎_elim (λ e. append_first x (ring b) (joined ring l) (subst (λ (y : ℕ). In x (ring y)) e j))
      (λ k. append_second x (ring b) (joined ring l) (joined_in x a l k j)) i

  -- rings that are each without repetition, and of which no two have a member in common
  joined_once : (l : List ℕ) → Distinct l → ((a : ℕ) → In a l → Distinct (ring a)) → ((a b x : ℕ) → In a l → In b l → In x (ring a) → In x (ring b) → a ≡ b)
      → Distinct (joined ring l)
  unfolding joined
  joined_once [] d h one = tt
  joined_once (a ∷ l) d h one =
      append_once (ring a) (joined ring l) (h a (inl refl)) (joined_once l d.1 (λ b i. h b (inr i)) (λ b c x i j. one b c x (inr i) (inr j)))
      (λ x i j. (let f = in_joined x l j in d.0 (subst (λ (y : ℕ). In y l) (sym (one a f.a x (inl refl) (inr f.is) i f.has)) f.is)))

  joined_most : (l : List ℕ) → ((a : ℕ) → In a l → 2 ≤ length (ring a)) → 2 * length l ≤ length (joined ring l)
  unfolding joined
  joined_most [] h = omega arith
  joined_most (a ∷ l) h = omega (arith, length-append (ring a) (joined ring l), h a (inl refl), joined_most l (λ b i. h b (inr i)))

  closed_length : (l : List ℕ) → length (closed ring l) ≡ length (joined ring l) + length l
  unfolding joined closed
  closed_length [] = refl
  closed_length (a ∷ l) = omega (arith, length-append (ring a) (joined ring l), length-append (ring a) (0 ∷ closed ring l), closed_length l)

-- ---- all of them
module _ {w : Waiting} {P : ℕ} (F : Fits w P) where
  in_leaders : (a : ℕ) → In a (leaders w P P) → Range P a × (leads w P a ≡ true)
  in_leaders a i =
      let k = in_keep a (leads w P) (from 1 P) i in
      let r = in_from a 1 P k.0 in
      ((r.0, omega arith), k.1)

  leaders_in : (a : ℕ) → Range P a → leads w P a ≡ true → In a (leaders w P P)
  leaders_in a r h = keep_in a (leads w P) (from 1 P) (from_in a 1 P r.0 (omega arith)) h

  -- two rings with a member in common are one: each has the lowest of the other
  no_higher : (a b x : ℕ) → In a (leaders w P P) → In b (leaders w P P) → In x (ring_of w P a) → In x (ring_of w P b) → b ≤ a
  no_higher a b x i j k l =
      let f = in_leaders a i in
      let g = in_leaders b j in
      let c = led_reached F b g.0 g.1 x l in
      leads_low F b g.0 g.1 a (links_then w c.links b x a c.by (leads_back F a f.0 f.1 x (led_reached F a f.0 f.1 x k)))

  one_ring : (a b x : ℕ) → In a (leaders w P P) → In b (leaders w P P) → In x (ring_of w P a) → In x (ring_of w P b) → a ≡ b
  one_ring a b x i j k l = let h = no_higher a b x i j k l in let u = no_higher b a x j i l k in omega arith

  pub tells_rings : TellsRings w P (leaders w P P) (ring_of w P) (joined (ring_of w P) (leaders w P P))
  tells_rings =
      record {
        each = each;
        rising = keep_rising (leads w P) P 1 0 (omega arith);
        members = record {
          once = once;
          only = only;
          every = λ x c. (let q = leader F x c.0 c.1 in joined_in (ring_of w P) x q.a (leaders w P P) (leaders_in q.a q.is q.leads) q.has);
        };
        few =
            omega (
              arith,
              joined_most (ring_of w P) (leaders w P P) (λ a i. (each a i).several),
              few 0 P (joined (ring_of w P) (leaders w P P)) once (λ x i. omega (arith, (only x i).0)),
            );
      }
    where
      each : (a : ℕ) → In a (leaders w P P) → Round w a (ring_of w P a)
      each a i = let f = in_leaders a i in led_round F a f.0 f.1

      once : Distinct (joined (ring_of w P) (leaders w P P))
      once =
          joined_once (ring_of w P) (leaders w P P) (keep_once (leads w P) (from 1 P) (from_once 1 P))
          (λ a i. (tells_who F a (in_leaders a i).0).once)
          one_ring

      only : (x : ℕ) → In x (joined (ring_of w P) (leaders w P P)) → StuckInRing w P x
      only x i = let q = in_joined (ring_of w P) x (leaders w P P) i in let f = in_leaders q.a q.is in led_members F q.a f.0 f.1 x q.has

  -- half as many words again as there are processes are always enough
  pub words_enough : 2 * length (words_to w P P) ≤ 3 * P
  words_enough =
      let r = tells_rings in
      omega (
        arith,
        closed_length (ring_of w P) (leaders w P P),
        r.few,
        few 0 P (joined (ring_of w P) (leaders w P P)) r.members.once (λ x i. omega (arith, (r.members.only x i).0)),
      )
