-- A real log is one that the machine gives, and the words at its end show the machine at its end. Assumes nothing.
use mathlib.Core.Path.{◌≡◌, sym, ap, ◌∙◌}
use mathlib.Core.Bool.{true}
use mathlib.Core.List.{List}
use Prim.Native.Nat.{ℕ}
use lib.ListN.{length, drop}
use Rattle.machine.specs.Machine.{Machine}
use Rattle.machine.specs.Words.{size, Shows}
use Rattle.machine.specs.Legal.{Legal}
use Rattle.machine.specs.Step.{Answer, step}
use Rattle.machine.specs.Layout.{entries, sum, laid_over, layout_ok, layout_refusal}
use Rattle.machine.specs.Log.{Call, Log, asked}
use Rattle.laws.proofs.Laid.{Setting, legal_laid, tells_layout, tells_setting, accepted_list}
use Rattle.laws.proofs.Step.{legal_step}
use Rattle.answers.specs.Promise.{Comes}
use Rattle.logs.specs.Follows.{Follows, end, last, Recorded}
use Rattle.logs.specs.Real.{Made, Chain, none, more, Real}

-- one call on words that show a legal machine
pub made_comes : {t u : List ℕ} {c : Call} {m : Machine} → Made t u c → Shows t m → Legal m → Comes (step m (asked c)) u c.answer
made_comes {c} {m} k w L = rw k.lent at (k.called.sound m w L)

-- the machine along a chain
pub record Along (m : Machine) (v : List ℕ) (l : List Call) : Type 0 where
  pub follows : Follows m l
  pub shows : Shows v (end m l)

pub along : {t v : List ℕ} {l : List Call} {m : Machine} → Chain t v l → Shows t m → Legal m → Along m v l
unfolding end
along none w L = record { follows = tt; shows = w }
along (more {c} k n) w L =
    let h = made_comes k w L in
    let r = along n h.words (legal_step L (asked c)) in
    record { follows = (h.answer, r.follows); shows = r.shows }

-- the words beyond the table of a real log
abbrev pub beyond_of : {g : Log} {u : List ℕ} → Real g u → List ℕ
beyond_of {g} h = drop (size (length g.list) (sum g.list) (length h.counters)) h.lent

module _ {g : Log} {u : List ℕ} (h : Real g u) where
  not_refused : layout_refusal h.list h.edition h.counters (length h.lent) ≡ 0
  not_refused = sym (ap (λ (r : Answer). r.number) h.layout.answer) ∙ h.accepted

  list_accepted : Setting h.edition h.counters × (layout_ok (entries h.list) ≡ true)
  list_accepted = accepted_list h.list h.edition h.counters (length h.lent) not_refused

  laid_shows : Shows h.laid (laid_over (beyond_of h) h.edition h.counters g.list)
  laid_shows = rw h.names at (h.layout.words not_refused)

  start_legal : Legal (laid_over (beyond_of h) h.edition h.counters g.list)
  start_legal =
      let l = (tells_layout (entries h.list)).holds list_accepted.1 in
      rw h.names at (legal_laid (beyond_of h) h.edition h.counters list_accepted.0 (entries h.list) l)

  pub real_recorded : Recorded (beyond_of h) h.edition h.counters g
  real_recorded =
      record {
        accepted = rw h.names at list_accepted.1;
        setting = (tells_setting h.edition h.counters).back list_accepted.0;
        follows = (along h.chain laid_shows start_legal).follows;
      }

  pub real_shows : Shows u (last (beyond_of h) h.edition h.counters g)
  real_shows = (along h.chain laid_shows start_legal).shows
