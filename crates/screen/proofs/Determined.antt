-- What the promise comes to: it determines number and list; each record that is filled, and those that stay; a refused call leaves the list; words beyond
-- the used length play no part; and what is sent agrees with the listing of call 0B. Assumes nothing.
use mathlib.Core.Path.{◌≡◌, refl, sym, ap, ◌∙◌}
use mathlib.Core.Bool.{Bool, true, false, not, ◌&&◌, ◌||◌}
use mathlib.Core.List.{List, [], ◌∷◌, ◌++◌}
use Prim.Native.Nat.{ℕ, zero, suc, ◌-◌, ◌≤◌, ◌<◌}
use native.Mathlib.Decide.{dec_le}
use native.Mathlib.Omega.{arith}
use borrow.Author.Tests.{lt-ltb, le-ltb}
use lib.ListN.{length, get_or, drop}
use lib.Dec.{eqb}
use Rattle.machine.specs.Queue.{if, Range, keep}
use Rattle.machine.specs.Machine.{Machine, Words, owner, receiver, standing, buffers}
use Rattle.machine.specs.Sound.{Sound}
use Rattle.machine.specs.Legal.{Legal}
use Rattle.machine.specs.Words.{Shows}
use Rattle.machine.specs.Request.{ListOpen, request}
use Rattle.machine.specs.Refusal.{is_shown, shown, first, refusal}
use Rattle.machine.specs.Step.{Answer as Reply, Outcome, rows, effect, judge, step}
use Rattle.lists.proofs.Tests.{passes, inside}
use Rattle.laws.proofs.Dispatch.{step_number}
use Rattle.laws.proofs.Bridge.{sound_shows}
use Rattle.laws.proofs.Beyond.{with_beyond, legal_beyond}
use Rattle.monitor.specs.Promise.{Called}
use Rattle.monitor.specs.Used.{used, SameUsed}
use Rattle.sound.proofs.CheckTold.{decided}
use Rattle.monitor.proofs.Unread.{other_shows, sound_unread}
use Rattle.screen.specs.declared.Summary.{Summary}
use Rattle.screen.specs.Screen.{is_open, summary, filled, Screens}
use Rattle.screen.specs.Meaning.{Filled, rows_owned}
use Rattle.screen.proofs.Filling.{length_filled, filled_at, filled_past}

-- ---- the machine's side
-- an accepted list has the records of all processes
filled_all : (m : Machine) (s : List Summary) → m.P ≤ length s → Filled m s (filled (summary m) m.P s)
filled_all m s h =
    record {
      same_length = length_filled (summary m) m.P s;
      each = λ p d r. (let e : suc (p - 1) ≡ p = omega arith in rw e at (filled_at (summary m) m.P s (p - 1) d (omega arith) h));
      past = λ i d k. filled_past (summary m) m.P s i d k;
    }

module _ {t : List ℕ} {s v : List Summary} {r : ℕ} (x : Screens t s v r) where
  -- any two results that the promise allows are equal
  pub screens_determines : {v' : List Summary} {r' : ℕ} → Screens t s v' r' → (r ≡ r') × (v ≡ v')
  screens_determines {v'} {r'} y = go (decided t)
    where
      go : Dec (Sound t) → (r ≡ r') × (v ≡ v')
      go (yes S) =
          let (m, w, L) = sound_shows S in
          let a = x.sound m w L in
          let b = y.sound m w L in
          (a.0 ∙ sym b.0, a.1 ∙ sym b.1)
      go (no n) =
          let a = x.unsound n in
          let b = y.unsound n in
          (a.0 ∙ sym b.0, a.1 ∙ sym b.1)

  -- "A list shorter than P is refused with 10", "nothing filled"
  pub refused_short : (m : Machine) → Shows t m → Legal m → length s < m.P → (r ≡ 10) × (v ≡ s)
  unfolding first
  refused_short m w L h = rw (lt-ltb (length s) m.P h) at (x.sound m w L)

  -- else every process has its record
  pub fills_all : (m : Machine) → Shows t m → Legal m → m.P ≤ length s → (r ≡ 0) × Filled m s v
  unfolding first
  fills_all m w L h =
      let k = rw (le-ltb (length s) m.P h) at (x.sound m w L) in
      (k.0, rw k.1 (filled_all m s h))

  -- a list that was filled was long enough, and the table sound
  pub was_filled : r ≡ 0 → (m : Machine) × Shows t m × Legal m × (m.P ≤ length s)
  was_filled e = go (decided t)
    where
      go : Dec (Sound t) → (m : Machine) × Shows t m × Legal m × (m.P ≤ length s)
      go (no n) = absurd (omega (arith, (x.unsound n).0))
      go (yes S) = let (m, w, L) = sound_shows S in (m, w, L, long m w L (dec_le m.P (length s)))
        where
          long : (m : Machine) → Shows t m → Legal m → Dec (m.P ≤ length s) → m.P ≤ length s
          long m w L (yes h) = h
          long m w L (no n) = absurd (omega (arith, (refused_short m w L (omega arith)).0))

-- two tables that agree up to the used length give the same screen, whatever stands beyond
pub screens_unread : {t t' : List ℕ} {s v v' : List Summary} {r r' : ℕ} → SameUsed t t' → Screens t s v r → Screens t' s v' r' → (r ≡ r') × (v ≡ v')
screens_unread {t} {t'} {s} {v} {v'} {r} {r'} h x y = go (decided t)
  where
    go : Dec (Sound t) → (r ≡ r') × (v ≡ v')
    go (yes S) =
        let (m, w, L) = sound_shows S in
        let a = x.sound m w L in
        let b = y.sound (with_beyond (drop (used t) t') m) (other_shows h w) (legal_beyond (drop (used t) t') L) in
        (a.0 ∙ sym b.0, a.1 ∙ sym b.1)
    go (no n) =
        let a = x.unsound n in
        let b = y.unsound (λ S. n ((sound_unread h).1 S)) in
        (a.0 ∙ sym b.0, a.1 ∙ sym b.1)

-- ---- the rows of a listing
-- of the rows shown for p, those with owner p are the open ones, whatever stands behind them
rows_open : (m : Machine) (p : ℕ) (behind l : List ℕ)
    → rows_owned p (length (keep (is_shown m p) l)) (rows m (keep (is_shown m p) l) ++ behind) ≡ length (keep (is_open m p) l)
unfolding rows keep rows_owned
rows_open m p behind [] = refl
rows_open m p behind (b ∷ l) = go (eqb (standing m b) 0) (eqb (owner m b) p) (eqb (receiver m b) p) refl _ _ (rows_open m p behind l)
  where
    go : (z o r : Bool) → eqb (owner m b) p ≡ o → (k j : List ℕ) → rows_owned p (length k) (rows m k ++ behind) ≡ length j
        → rows_owned p (length (if (not z && (o || r)) (b ∷ k) k)) (rows m (if (not z && (o || r)) (b ∷ k) k) ++ behind) ≡ length (if (o && not z) (b ∷ j) j)
    go true true r e k j h = h
    go true false r e k j h = h
    go false true r e k j h = rw e (omega (arith, h))
    go false false true e k j h = rw e (omega (arith, h))
    go false false false e k j h = h

-- what an accepted call 0B for p lists
lists_shown : (m : Machine) (p n : ℕ) → (step m (ListOpen p n)).answer.number ≡ 0
    → ((step m (ListOpen p n)).answer.kind ≡ length (shown m p)) × ((step m (ListOpen p n)).listing ≡ rows m (shown m p))
unfolding step effect
lists_shown m p n = go (refusal m (ListOpen p n)) (effect m (ListOpen p n))
  where
    go : (k : ℕ) (o : Outcome) → (judge k o m).answer.number ≡ 0 → ((judge k o m).answer.kind ≡ o.answer.kind) × ((judge k o m).listing ≡ o.listing)
    go zero o e = (refl, refl)
    go (suc k) o e = absurd (omega arith)

-- it is for a process
lists_process : (m : Machine) (p n : ℕ) → (step m (ListOpen p n)).answer.number ≡ 0 → Range m.P p
unfolding refusal
lists_process m p n e = let h = passes _ (omega arith) (sym (step_number m (ListOpen p n)) ∙ e) in inside m.P p h.0

-- "Sent conversations agree with the listing of call 0B, orphaned ones counted": where a screen is filled and a call 0B for p accepted, on the same table,
-- the record says as many as there are rows with owner p in the call's room, of those that its kind counts
pub sent_listed : {t u room listing : List ℕ} {s v : List Summary} {r p b : ℕ} {ws : Words} {a : Reply} → Screens t s v r → r ≡ 0
    → Called t u room listing 11 p b ws a → a.number ≡ 0 → (none : Summary) → (get_or v (p - 1) none).sent ≡ rows_owned p a.kind listing
unfolding request
sent_listed {t} {u} {room} {listing} {s} {v} {r} {p} {b} {ws} {a} x e c accepted none =
    let (m, w, L, long) = was_filled x e in
    let q = ListOpen p (length room) in
    let comes = (c.sound m w L).answer in
    let number : (step m q).answer.number ≡ 0 = sym (ap (λ (z : Reply). z.number) comes) ∙ accepted in
    let lists = lists_shown m p (length room) number in
    let kind : a.kind ≡ length (shown m p) = ap (λ (z : Reply). z.kind) comes ∙ lists.0 in
    let put : listing ≡ rows m (shown m p) ++ drop (length (rows m (shown m p))) room = c.room m w L ∙ rw lists.1 in
    let says = (fills_all x m w L long).1.each p none (lists_process m p (length room) number) in
    ap (λ (z : Summary). z.sent) says ∙ sym (rw (kind, put) (rows_open m p (drop (length (rows m (shown m p))) room) (buffers m)))
