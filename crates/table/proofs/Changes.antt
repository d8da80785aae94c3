-- A number put into a queue, and one taken out: what may be linked on the way, and what the table shows then. Assumes nothing.
use Prim.Native.Nat.{ℕ, ◌≤◌}
use native.Mathlib.Omega.{arith}
use mathlib.Core.List.{List}
use mathlib.Core.Logic.{⊎_elim}
use mathlib.Core.Path.{◌≡◌, sym}
use Rattle.machine.specs.Queue.{same, In, next, previous, without}
use Rattle.machine.specs.Machine.{Machine}
use Rattle.machine.specs.Words.{index, ShowsLinks, Shows}
use Rattle.lists.proofs.Links.{out_in}
use Rattle.table.specs.Fits.{Fits}
use Rattle.table.specs.Links.{Queue, queue_of, put_queue, links_of, neighbours, place_of, set_link, set_links, join}
use Rattle.table.specs.Links.{ThereIn, MemberOf, Linkable, MayLink, LinksAt, MayJoin, Puts, MayInsert, MayRemove, remove}
use Rattle.table.proofs.Neighbours.{next_all, previous_all, next_take, previous_take, next_put, previous_put}
use Rattle.table.proofs.Linking.{yes_queue, no_queue, linked}

module _ (m : Machine) (w : Queue) (there : ThereIn m w) where
  linkable_end : Linkable w 0 m
  linkable_end = (there, λ l. absurd (omega arith))

  module _ (f : Fits (MemberOf m w) (queue_of m w)) where
    linkable_in : (x : ℕ) → In x (queue_of m w) → Linkable w x m
    linkable_in x i = (there, λ l. f.within x i)

    linkable_next : (x : ℕ) → Linkable w (next (queue_of m w) x) m
    linkable_next x = next_all (λ (y : ℕ). Linkable w y m) 0 (queue_of m w) x linkable_end linkable_in

    linkable_previous : (x : ℕ) → Linkable w (previous (queue_of m w) x) m
    linkable_previous x = previous_all (λ (y : ℕ). Linkable w y m) 0 (queue_of m w) x linkable_end linkable_end linkable_in

-- ---- putting in
module _ (m : Machine) (w : Queue) {a b x : ℕ} (may : MayInsert w a b x m) where
  linkable_behind : Linkable w a m
  linkable_behind = ⊎_elim (λ e. rw e (linkable_end m w may.there)) (linkable_in m w may.there may.fits a) may.behind

  linkable_new : Linkable w x m
  linkable_new = (may.there, λ l. may.member)

  pub insert_before : MayLink w 0 a m
  insert_before = record { low = omega arith; linkable = linkable_behind }

  pub insert_links : {i : ℕ} → i ≡ index m.P m.B (place_of w 0 x) → LinksAt w x i m
  insert_links e = record { is = may.is; linkable = linkable_new; found = e }

  pub insert_after : MayLink w 1 b m
  insert_after = record { low = omega arith; linkable = rw may.follows (linkable_next m w may.there may.fits a) }

  pub inserted : {t : List ℕ} (r : List ℕ) → Puts x 0 a (queue_of m w) r
      → ShowsLinks t m (links_of (set_link w 1 b x (set_links w x b a (set_link w 0 a x (neighbours m))))) → Shows t (put_queue w r m)
  unfolding same
  inserted r p =
      let q = queue_of m w in
      let d = may.fits.once in
      let x₀ : x ≡ 0 → ⊥ = omega (arith, may.is) in
      linked m w r _ may.there (λ u k z o. simp no_queue)
      (λ z. simp yes_queue (sym (rw may.follows (next_put x 0 a q r z p d (⊎_elim x₀ may.new)))))
      (λ z. simp yes_queue (sym (rw may.follows (previous_put x 0 a q r z p d d.0 may.new x₀))))

-- ---- taking out
module _ (m : Machine) (w : Queue) {x : ℕ} (may : MayRemove w x m) where
  pub remove_is : 1 ≤ x
  remove_is = let n = out_in 0 x (queue_of m w) may.fits.once.0 may.stands in omega arith

  pub remove_links : {i : ℕ} → i ≡ index m.P m.B (place_of w 0 x) → LinksAt w x i m
  remove_links e = record { is = remove_is; linkable = linkable_in m w may.there may.fits x may.stands; found = e }

  module _ {n a : ℕ} (e : n ≡ next (queue_of m w) x) (f : a ≡ previous (queue_of m w) x) where
    pub remove_joins : MayJoin w a n m
    remove_joins = record { from = rw f (linkable_previous m w may.there may.fits x); to = rw e (linkable_next m w may.there may.fits x) }

    pub removed : {t : List ℕ} → ShowsLinks t m (links_of (set_links w x 0 0 (join w a n (neighbours m)))) → Shows t (remove w x m)
    unfolding same
    removed =
        let q = queue_of m w in
        let d = may.fits.once in
        linked m w (without x q) _ may.there (λ u k z o. simp no_queue)
        (λ z. simp yes_queue (sym (rw (e, f) (next_take 0 x q z d may.stands))))
        (λ z. simp yes_queue (sym (rw (e, f) (previous_take 0 x q z (out_in 0 x q d.0 may.stands) d may.stands))))
