-- The ways out of a turn, each with what the line leads to: by the state that the words keep and the shape of the line. Assumes nothing.
use mathlib.Core.List.{List, []}
use mathlib.Core.Path.{◌≡◌, refl, subst}
use Prim.Native.Nat.{ℕ, zero, suc, ◌≤◌}
use native.Mathlib.Omega.{arith}
use lib.ListN.{length}
use borrow.Author.Tests.{ne_eqb}
use Rattle.machine.specs.declared.exchange.Answer.{Answer as Reply}
use Rattle.machine.specs.declared.exchange.Call.{Call}
use Rattle.machine.specs.Exchange.{words_in, said}
use Rattle.machine.specs.Machine.{Machine}
use Rattle.machine.specs.Step.{refused}
use Rattle.machine.specs.Legal.{Legal}
use Rattle.machine.specs.Words.{Shows}
use Rattle.machine.specs.Layout.{Entry, layout_refusal}
use Rattle.laws.proofs.Step.{legal_step}
use Rattle.table.specs.Promise.{Can}
use Rattle.answers.specs.Promise.{with_listing}
use Rattle.lines.specs.declared.Parsed.TheVariants.{Call as ItsCall}
use Rattle.lines.specs.Line.{Shape, LayoutEntry, Ask, Other, answer_line, other_line}
use Rattle.lines.specs.Promise.{numbers, Wrote}
use Rattle.lines.specs.Replay.{State, Gathering, Running, Ended, Turn, five, unless_refused, laid_out, machine_by, turn, table}
use Rattle.lines.proofs.Stores.{answer_length, other_length}
use Rattle.turn.specs.declared.Run.{Run}
use Rattle.turn.specs.InWords.{Entries, Zeros, Ready, InWords, over, running, gathering, Leads}
use Rattle.turn.specs.InWords.{Begins, AddsEntry, Answered, request_read, makes, Accepts, Refuses, shape_read, list_after, rows_by}
use Rattle.turn.proofs.Writing.{line_written, none_written}
use Rattle.turn.proofs.Answering.{called_few}
use Rattle.turn.proofs.Laying.{legal_by}

-- what was read of a line is what it is
pub read_back : (x : Shape) → shape_read (numbers x) ≡ x
read_back (LayoutEntry e) = refl
read_back (Ask k a b ws) = refl
read_back Other = refl

-- ---- what the words keep
-- the state that an ended run keeps
pub in_words_ended : (s : State) (t l : List ℕ) → InWords s t l over → s ≡ Ended
in_words_ended (Gathering ws) t l k = absurd k
in_words_ended (Running m) t l k = absurd k
in_words_ended Ended t l k = refl

module _ {t l out : List ℕ} {at n : ℕ} (r : Ready t l out at (gathering n)) where
  pub few_entries : n ≤ 33
  few_entries = go r.state r.in_words
    where
      go : (s : State) → InWords s t l (gathering n) → n ≤ 33
      go (Gathering ws) k = k.1.few
      go (Running m) k = absurd k
      go Ended k = absurd k

  -- the layout done, the words show a legal machine
  pub laid_legal : {u : List ℕ} → ((ws : List ℕ) → Entries ws l n → Zeros t → Accepts ws u) → Can u Legal
  laid_legal {u} h = go r.state r.in_words
    where
      go : (s : State) → InWords s t l (gathering n) → Can u Legal
      go (Gathering ws) k = let y = h ws k.1 k.0 in record { m = machine_by ws; shows = y.words; may = legal_by ws (length table) y.number }
      go (Running m) k = absurd k
      go Ended k = absurd k

-- and so they do while the run goes on
pub running_legal : {t l out : List ℕ} {at : ℕ} → Ready t l out at running → Can t Legal
running_legal {t} {l} r = go r.state r.in_words
  where
    go : (s : State) → InWords s t l running → Can t Legal
    go (Gathering ws) k = absurd k
    go (Running m) k = record { m = m; shows = k.0; may = k.1 }
    go Ended k = absurd k

-- ---- a layout that is refused
pub refused_leads : {before after : List ℕ} {at next : ℕ} {ws u l : List ℕ} {r : Reply} (f : Machine → Turn) → Refuses ws u r
    → Wrote before at (answer_line (said r)) after next
    → Leads (laid_out ws f) u l over before at after next
refused_leads {before} {after} {at} {next} {ws} {u} {l} {r} f y w =
    go (layout_refusal ws 0 [] (length table)) y.number (subst (λ x. Wrote before at (answer_line x) after next) y.answer w)
  where
    go : (k : ℕ) → (k ≡ 0 → ⊥) → Wrote before at (answer_line (refused k)) after next
        → Leads (unless_refused k (f (machine_by ws))) u l over before at after next
    go zero i w = absurd (i refl)
    go (suc k) i w = record { in_words = y.unchanged; written = line_written w; few = omega (arith, answer_length (refused (suc k))) }

-- ---- the calls
module _ {s s' before after : List ℕ} {at next : ℕ} where
  -- a call that was made
  pub answered_leads : {m : Machine} {c : Call} {u : List ℕ} (l : List ℕ) → Legal m → Answered m c u s s' before at after next
      → Leads (makes m c) u l running before at after next
  answered_leads {c = c} l L a =
      record {
        in_words = (a.words, legal_step L (request_read c));
        written = a.written;
        few = called_few L c.number c.a c.b (words_in c.words);
      }

module _ {before after : List ℕ} {at next : ℕ} {w w' : Run} where
  -- a layout that was done, and the call made
  pub layout_answered : {ws t u : List ℕ} (c : Call) → Accepts ws t → w'.progress ≡ running
      → ((m : Machine) → Shows t m → Legal m → Answered m c u w.room w'.room before at after next)
      → Begins ws c u w w' before at after next
  layout_answered {ws} c y f h =
      let L = legal_by ws (length table) y.number in
      let a = h (machine_by ws) y.words L in
      record { leads = rw (y.number, f) (answered_leads w'.list L a); room = rw y.number a.room }

  -- one that was refused
  pub layout_refused : {ws u : List ℕ} {r : Reply} (c : Call) → Refuses ws u r → w'.room ≡ w.room → w'.progress ≡ over
      → Wrote before at (answer_line (said r)) after next
      → Begins ws c u w w' before at after next
  layout_refused {ws} c y f g x =
      record {
        leads = rw g (refused_leads (λ m. makes m c) y x);
        room = rw (ne_eqb (layout_refusal ws 0 [] (length table)) 0 y.number) f;
      }

-- ---- one line
module _ {t l before : List ℕ} {at : ℕ} where
  pub turn_ended : (x : Shape) (s : State) → InWords s t l over → Leads (turn s x) t l over before at before at
  unfolding turn
  turn_ended x (Gathering ws) k = absurd k
  turn_ended x (Running m) k = absurd k
  turn_ended x Ended k = record { in_words = k; written = none_written before at; few = omega arith }

  pub turn_gathers : {list : List ℕ} {n k : ℕ} (e : Entry) → AddsEntry l n (five e) list k
      → (s : State) → InWords s t l (gathering n) → Leads (turn s (LayoutEntry e)) t list (gathering k) before at before at
  unfolding turn
  turn_gathers e h (Gathering ws) k = record { in_words = (k.0, h.entries ws k.1); written = none_written before at; few = omega arith }
  turn_gathers e h (Running m) k = absurd k
  turn_gathers e h Ended k = absurd k

  module _ {after : List ℕ} {next : ℕ} where
    pub other_gathering : {n : ℕ} → Wrote before at other_line after next
        → (s : State) → InWords s t l (gathering n) → Leads (turn s Other) t l (gathering n) before at after next
    unfolding turn
    other_gathering w (Gathering ws) k = record { in_words = k; written = line_written w; few = omega (arith, other_length) }
    other_gathering w (Running m) k = absurd k
    other_gathering w Ended k = absurd k

    pub other_running : Wrote before at other_line after next
        → (s : State) → InWords s t l running → Leads (turn s Other) t l running before at after next
    unfolding turn
    other_running w (Gathering ws) k = absurd k
    other_running w (Running m) k = record { in_words = k; written = line_written w; few = omega (arith, other_length) }
    other_running w Ended k = absurd k

    pub late_entry : (e : Entry) → Wrote before at other_line after next
        → (s : State) → InWords s t l running → Leads (turn s (LayoutEntry e)) t l running before at after next
    unfolding turn
    late_entry e w (Gathering ws) k = absurd k
    late_entry e w (Running m) k = record { in_words = k; written = line_written w; few = omega (arith, other_length) }
    late_entry e w Ended k = absurd k

    -- the first call
    pub turn_begins : {u : List ℕ} {n : ℕ} {w w' : Run} (c : Call)
        → ((ws : List ℕ) → InWords (Gathering ws) t l (gathering n) → Begins ws c u w w' before at after next)
        → (s : State) → InWords s t l (gathering n)
        → Leads (turn s (shape_read (ItsCall c))) u w'.list w'.progress before at after next
        × (w'.room ≡ with_listing (rows_by s (shape_read (ItsCall c))) w.room)
    unfolding turn rows_by
    turn_begins c h (Gathering ws) k = ((h ws k).leads, (h ws k).room)
    turn_begins c h (Running m) k = absurd k
    turn_begins c h Ended k = absurd k

    -- any other
    pub turn_serves : {u v v' : List ℕ} (c : Call)
        → ((m : Machine) → Shows t m → Legal m → Answered m c u v v' before at after next)
        → (s : State) → InWords s t l running
        → Leads (turn s (shape_read (ItsCall c))) u l running before at after next × (v' ≡ with_listing (rows_by s (shape_read (ItsCall c))) v)
    unfolding turn rows_by
    turn_serves c h (Gathering ws) k = absurd k
    turn_serves c h (Running m) k = let y = h m k.0 k.1 in (answered_leads l k.1 y, y.room)
    turn_serves c h Ended k = absurd k

-- the list, where the run has ended
pub list_over : (x : Shape) (l : List ℕ) → l ≡ list_after over x l
unfolding list_after
list_over (LayoutEntry e) l = refl
list_over (Ask k a b ws) l = refl
list_over Other l = refl

-- the room, where no call is made
module _ (v : List ℕ) where
  pub room_ended : (t l : List ℕ) (x : Shape) (s : State) → InWords s t l over → v ≡ with_listing (rows_by s x) v
  unfolding rows_by
  room_ended t l x (Gathering ws) k = absurd k
  room_ended t l x (Running m) k = absurd k
  room_ended t l x Ended k = refl

  pub room_entry : (e : Entry) (s : State) → v ≡ with_listing (rows_by s (LayoutEntry e)) v
  unfolding rows_by
  room_entry e (Gathering ws) = refl
  room_entry e (Running m) = refl
  room_entry e Ended = refl

  pub room_other : (s : State) → v ≡ with_listing (rows_by s Other) v
  unfolding rows_by
  room_other (Gathering ws) = refl
  room_other (Running m) = refl
  room_other Ended = refl
