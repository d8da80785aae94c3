-- Every recorded log is a real one on some words, so that no statement over real logs is empty: those of the machine at each call. Assumes nothing.
use Prim.Native.Nat.{ℕ, zero, suc}
use mathlib.Core.Bool.{true}
use mathlib.Core.List.{List, [], ◌∷◌, ◌++◌}
use mathlib.Core.Path.{◌≡◌, refl, sym, ap, subst, ◌∙◌}
use lib.ListN.{length}
use borrow.Author.Tests.{le-ltb}
use Rattle.machine.specs.Queue.{from}
use Rattle.machine.specs.Machine.{Machine, Words}
use Rattle.machine.specs.Request.{request}
use Rattle.machine.specs.Refusal.{first, refusal}
use Rattle.machine.specs.Step.{refused, step}
use Rattle.machine.specs.Legal.{Legal}
use Rattle.machine.specs.Words.{size, Shows, image}
use Rattle.machine.specs.Layout.{Entry, entries, sum, fives, laid_over, layout_refusal}
use Rattle.machine.specs.Log.{Call, Log, asked}
use Rattle.lists.proofs.Numbers.{length_from}
use Rattle.laws.proofs.Dispatch.{step_number}
use Rattle.laws.proofs.Decoded.{shows_sound}
use Rattle.laws.proofs.Step.{legal_step}
use Rattle.laws.proofs.Unique.{one_machine, image_shows}
use Rattle.answers.specs.Promise.{with_listing}
use Rattle.monitor.specs.Promise.{Called}
use Rattle.logs.specs.Follows.{Follows, end, Recorded}
use Rattle.logs.specs.Real.{Made, Chain, none, more, Real}
use Rattle.logs.proofs.Reading.{legal_start}
use Rattle.logs.proofs.RespectStep.{step_alike}
use Rattle.logs.proofs.ShowsAlike.{shows_alike}

-- ---- a call
-- on the words t, with the room s, it leaves words that show the machine afterwards
record Leaves (m : Machine) (t s : List ℕ) (k a b : ℕ) (ws : Words) : Type 0 where
  u : List ℕ
  shows : Shows u (step m (request k a b ws (length s))).machine
  called : Called t u s (with_listing (step m (request k a b ws (length s))).listing s) k a b ws (step m (request k a b ws (length s))).answer

module _ {m : Machine} (L : Legal m) {t : List ℕ} (w : Shows t m) (s : List ℕ) (k a b : ℕ) (ws : Words) where
  -- whatever words show it, if a refusal leaves those that there were
  leaves : (u : List ℕ) → Shows u (step m (request k a b ws (length s))).machine
      → (((step m (request k a b ws (length s))).answer.number ≡ 0 → ⊥) → (u ≡ t) × (with_listing (step m (request k a b ws (length s))).listing s ≡ s))
      → Leaves m t s k a b ws
  leaves u h n =
      let q = request k a b ws (length s) in
      record {
        u = u;
        shows = h;
        called = record {
          unsound = λ x. absurd (x (shows_sound w L));
          sound = λ m' w' L'. (let z = step_alike L (one_machine w w' L L') q in
              record { answer = sym z.answer; words = shows_alike (legal_step L q) z.machine h });
          room = λ m' w' L'. ap (λ (l : List ℕ). with_listing l s) (sym (step_alike L (one_machine w w' L L') q).listing);
          unchanged = n;
        };
      }

  comes : Leaves m t s k a b ws
  unfolding step
  comes = go (refusal m (request k a b ws (length s))) refl
    where
      go : (c : ℕ) → refusal m (request k a b ws (length s)) ≡ c → Leaves m t s k a b ws
      go zero e =
          let n = (step m (request k a b ws (length s))).machine in
          leaves (image n ++ n.beyond) (image_shows n) (λ x. absurd (x (step_number m (request k a b ws (length s)) ∙ e)))
      go (suc c) e = leaves t (rw (step, e) w) (λ x. (refl, rw (step, e)))

-- ---- a run of calls
record Run (t : List ℕ) (m : Machine) (l : List Call) : Type 0 where
  v : List ℕ
  chain : Chain t v l
  shows : Shows v (end m l)

runs : {m : Machine} → Legal m → {t : List ℕ} → Shows t m → (l : List Call) → Follows m l → Run t m l
unfolding end
runs L {t} w [] f = record { v = t; chain = none; shows = w }
runs {m} L {t} w (c ∷ l) f =
    let s = from 0 c.room in
    let z = comes L w s c.number c.a c.b c.words in
    let e = length_from 0 c.room in
    let x : Shows z.u (step m (asked c)).machine = rw e at z.shows in
    let told : (step m (request c.number c.a c.b c.words (length s))).answer ≡ c.answer = rw e (sym f.0) in
    let called = subst (Called t z.u s _ c.number c.a c.b c.words) told z.called in
    let made : Made t z.u c = record { room = s; room' = _; lent = e; called = called } in
    let r = runs {m = (step m (asked c)).machine} (legal_step L (asked c)) x l f.1 in
    record { v = r.v; chain = more made r.chain; shows = r.shows }

-- ---- the layout
-- the words of a list's entries
spell : List Entry → List ℕ
spell [] = []
spell (e ∷ l) = e.priority ∷ e.owns ∷ e.name₀ ∷ e.name₁ ∷ e.name₂ ∷ spell l

spelled : (l : List Entry) → entries (spell l) ≡ l
unfolding entries spell
spelled [] = refl
spelled (e ∷ l) = ap (λ (r : List Entry). e ∷ r) (spelled l)

in_fives : (l : List Entry) → fives (spell l) ≡ true
unfolding fives spell
in_fives [] = refl
in_fives (e ∷ l) = in_fives l

-- how many words the table has
abbrev used : Log → List ℕ → ℕ
used g counters = size (length g.list) (sum g.list) (length counters)

-- ---- the log, and the words at its end
pub record RealOn (g : Log) : Type 0 where
  pub words : List ℕ
  pub real : Real g words

pub recorded_real : {beyond counters : List ℕ} {edition : ℕ} {g : Log} → Recorded beyond edition counters g → RealOn g
unfolding laid_over layout_refusal first
recorded_real {beyond} {counters} {edition} {g} h =
    let m = laid_over beyond edition counters g.list in
    let t = image m ++ beyond in
    let w : Shows t m = image_shows m in
    let ws = spell g.list in
    let accepted : layout_refusal ws edition counters (length t) ≡ 0
    = rw (h.setting, in_fives g.list, spelled g.list, h.accepted, le-ltb (length t) (used g counters) w.table.long) in
    let r = runs (legal_start h) w g.calls h.follows in
    record {
      words = r.v;
      real = record {
        list = ws;
        edition = edition;
        counters = counters;
        lent = t;
        laid = t;
        answer = refused (layout_refusal ws edition counters (length t));
        names = spelled g.list;
        layout = record { answer = refl; words = λ _. rw (spelled g.list, w.table.beyond) w; unchanged = λ _. refl };
        accepted = accepted;
        chain = r.chain;
      };
    }
