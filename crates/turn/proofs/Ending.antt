-- The end of the input: a line begun has its turn, and then the layout is done if it wasn't yet. Assumes nothing.
use mathlib.Core.List.{List, [], ◌∷◌}
use mathlib.Core.Path.{◌≡◌, refl, ap}
use Prim.Native.Nat.{ℕ, zero, suc, ◌+◌, ◌*◌, ◌≤◌, ◌<◌}
use native.Mathlib.Decide.{dec_lt}
use native.Mathlib.Omega.{arith}
use lib.ListN.{length, take, length-append}
use lib.Seq.{length-take-le}
use borrow.Author.Tests.{lt-ltb}
use Rattle.machine.specs.declared.exchange.Answer.{Answer as Reply}
use Rattle.machine.specs.Exchange.{said}
use Rattle.machine.specs.Step.{refused}
use Rattle.machine.specs.Layout.{layout_refusal}
use Rattle.text.specs.Cut.{cut}
use Rattle.lines.specs.Line.{shape, answer_line, answer_bytes}
use Rattle.lines.specs.Promise.{Wrote}
use Rattle.lines.specs.Replay.{State, Gathering, Running, Ended, Turn, longest, unless_refused, laid_out, machine_by, next, last, table, silent}
use Rattle.lines.proofs.Run.{run_stops, run_stops_in_line}
use Rattle.lines.proofs.Stores.{answer_length}
use Rattle.turn.specs.declared.Progress.{Progress}
use Rattle.turn.specs.declared.Progress.TheVariants.{Gathering as Gathers, Running as Runs, Ended as HasEnded}
use Rattle.turn.specs.declared.Run.{Run}
use Rattle.turn.specs.declared.blocks.Reader.{Reader}
use Rattle.turn.specs.InWords.{Entries, Zeros, Ready, InWords, gathering, over, Accepts, Refuses, InTable, finished, LineFits, Leads}
use Rattle.turn.specs.InWords.{TakesTurn, Finishes}
use Rattle.turn.specs.Begun.{Begun}
use Rattle.turn.specs.Feed.{ends, Closes, TakesEnd}
use Rattle.turn.proofs.Laying.{legal_by}
use Rattle.turn.proofs.Writing.{none_written, written_behind}
use Rattle.turn.proofs.Turns.{refused_leads}
use Rattle.turn.proofs.Feeding.{none_begun, same_shape}

-- ---- where no line is begun
-- no more than an answer line is written there
pub last_few : (s : State) → length (last s) ≤ answer_bytes
unfolding last
last_few (Gathering ws) = go (layout_refusal ws 0 [] (length table))
  where
    go : (k : ℕ) → length (unless_refused k (silent (Running (machine_by ws)))).output ≤ answer_bytes
    go zero = omega arith
    go (suc k) = omega (arith, answer_length (refused (suc k)))
last_few (Running m) = omega arith
last_few Ended = omega arith

-- the table is that of the state
in_words_table : (t l : List ℕ) (p : Progress) (s : State) → InWords s t l p → InTable s t
in_words_table t l (Gathers n) (Gathering ws) k = k.0
in_words_table t l Runs (Gathering ws) k = absurd k
in_words_table t l HasEnded (Gathering ws) k = absurd k
in_words_table t l (Gathers n) (Running m) k = absurd k
in_words_table t l Runs (Running m) k = k
in_words_table t l HasEnded (Running m) k = absurd k
in_words_table t l (Gathers n) Ended k = absurd k
in_words_table t l Runs Ended k = absurd k
in_words_table t l HasEnded Ended k = k

module _ {t before : List ℕ} (l : List ℕ) {at : ℕ} where
  pub end_silent : (p : Progress) → ((n : ℕ) → p ≡ gathering n → ⊥) → (s : State) → InWords s t l p → Finishes s t before at before at
  unfolding last finished
  end_silent (Gathers n) ne s k = absurd (ne n refl)
  end_silent Runs ne (Gathering ws) k = absurd k
  end_silent Runs ne (Running m) k = record { table = k; written = none_written before at }
  end_silent Runs ne Ended k = absurd k
  end_silent HasEnded ne (Gathering ws) k = absurd k
  end_silent HasEnded ne (Running m) k = absurd k
  end_silent HasEnded ne Ended k = record { table = k; written = none_written before at }

  module _ {n : ℕ} {u : List ℕ} where
    pub end_done : ((ws : List ℕ) → Entries ws l n → Zeros t → Accepts ws u) → (s : State) → InWords s t l (gathering n) → Finishes s u before at before at
    unfolding last finished
    end_done h (Gathering ws) k =
        let y = h ws k.1 k.0 in
        record {
          table = rw (finished, y.number) (y.words, legal_by ws (length table) y.number);
          written = rw (last, y.number) (none_written before at);
        }
    end_done h (Running m) k = absurd k
    end_done h Ended k = absurd k

    pub end_refused : {after : List ℕ} {next : ℕ} {r : Reply} → ((ws : List ℕ) → Entries ws l n → Zeros t → Refuses ws u r)
        → Wrote before at (answer_line (said r)) after next → (s : State) → InWords s t l (gathering n) → Finishes s u before at after next
    unfolding last finished
    end_refused h w (Gathering ws) k =
        let y = refused_leads {l = l} (λ m. silent (Running m)) (h ws k.1 k.0) w in
        record { table = in_words_table u l over (laid_out ws (λ m. silent (Running m))).state y.in_words; written = y.written }
    end_refused h w (Running m) k = absurd k
    end_refused h w Ended k = absurd k

-- ---- where a line is, or none
-- after its turn there is room for the end
pub still_ready : {o : Turn} {t l t' l' before mid : List ℕ} {p p' : Progress} {at place : ℕ} → Ready t l before at p → LineFits (at + longest) (length before)
    → Leads o t' l' p' before at mid place → length mid ≡ length before → Ready t' l' mid place p'
still_ready {o} r f y b = record { fits = omega (arith, y.written.place, y.few); state = o.state; in_words = y.in_words }

module _ {begun line : List ℕ} {n : ℕ} (b : Begun begun line n) where
  closes : {s : State} {u before after : List ℕ} {at next : ℕ} → n ≡ 0 → Finishes s u before at after next → Closes s begun u before at after next
  unfolding ends cut
  closes {s} e f =
      rw (none_begun b e) (record { table = f.table; written = rw (run_stops s) f.written; few = rw (run_stops s) (omega (arith, last_few s)) })

  some_begun : length line ≡ 27 → (n ≡ 0 → ⊥) → 0 < length begun
  some_begun h ne = go (dec_lt 26 n)
    where
      go : Dec (26 < n) → 0 < length begun
      go (yes k) = omega (arith, b.many k)
      go (no k) = let e : 1 * n ≡ n = omega arith in omega (arith, ap length (rw e at (b.words (omega arith))), length-take-le n line (omega arith))

  closes_line : {s : State} {t l u before mid after : List ℕ} {p : Progress} {at place next' : ℕ} → length line ≡ 27 → (n ≡ 0 → ⊥)
      → Leads (next s (take n line)) t l p before at mid place → Finishes (next s (take n line)).state u mid place after next'
      → Closes s begun u before at after next'
  unfolding ends cut
  closes_line {s} {u = u} {before} {after = after} {at = at} {next' = next'} h ne x f = go begun (some_begun h ne) (same_shape h b)
    where
      go : (l : List ℕ) → 0 < length l → shape l ≡ shape (take n line) → Closes s l u before at after next'
      go [] k e = absurd (omega arith)
      go (c ∷ l) k e =
          let o = next s (take n line) in
          record {
            table = rw e f.table;
            written = rw (run_stops_in_line s c l, e) (written_behind x.written f.written);
            few = rw (run_stops_in_line s c l, e) (omega (arith, length-append o.output (last o.state), last_few o.state, x.few));
          }

-- and what the end leaves in the list and in the room
module _ {t : List ℕ} {w w' : Reader} {before : List ℕ} {at : ℕ} where
  pub ends_plain : {u after : List ℕ} {place : ℕ} → w.begun.len ≡ 0 → w'.run ≡ w.run
      → ((s : State) → InWords s t w.run.list w.run.progress → Finishes s u before at after place)
      → TakesEnd t w u w' before at after place
  ends_plain e same f =
      record {
        closes = λ s begun k b. closes b e (f s k);
        list = λ begun b. rw (none_begun b e) (ap (λ (x : Run). x.list) same);
        room = λ s begun k b. rw (none_begun b e) (ap (λ (x : Run). x.room) same);
      }

  pub ends_line : {t' u mid after : List ℕ} {next place : ℕ} → length w.begun.bytes ≡ 27 → (w.begun.len ≡ 0 → ⊥)
      → TakesTurn (shape (take w.begun.len w.begun.bytes)) t w.run t' w'.run before at mid next
      → ((s : State) → InWords s t' w'.run.list w'.run.progress → Finishes s u mid next after place)
      → TakesEnd t w u w' before at after place
  ends_line h ne x f =
      record {
        closes = λ s begun k b. (let y = x.leads s k in closes_line b h ne y (f _ y.in_words));
        list = λ begun b. rw (lt-ltb 0 (length begun) (some_begun b h ne), same_shape h b) x.list;
        room = λ s begun k b. rw (lt-ltb 0 (length begun) (some_begun b h ne), same_shape h b) (x.room s k);
      }
