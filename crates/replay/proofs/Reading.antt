-- Read after read: what was read is behind the input, and why reading comes to its end. Assumes nothing.
use mathlib.Core.Bool.{true, false}
use mathlib.Core.List.{List, [], ◌++◌, append-nil, append_assoc}
use mathlib.Core.Path.{◌≡◌, refl, sym}
use Prim.Native.Nat.{ℕ, ◌+◌, ◌≤◌}
use native.Mathlib.Omega.{arith}
use lib.Dec.{eqb}
use lib.ListN.{length, take, length-append}
use lib.Seq.{length-take-le}
use borrow.Author.Tests.{eqb-true, eqb-false}
use Rattle.lists.proofs.Tests.{differ, tested, or_false}
use Rattle.turn.specs.declared.Progress.{Progress}
use Rattle.turn.specs.declared.Progress.TheVariants.{Gathering, Running, Ended}
use Rattle.turn.specs.InWords.{over}
use Rattle.replay.specs.Open.{Lent, Holds, HasRoom, Open, Read, TakesAll, ReadsAll, has_ended, ends_reading}
use Rattle.replay.specs.Open.{most_reads, Stops, nothing_read, layout_refused, all_reads}

pub ended_over : (p : Progress) → has_ended p ≡ true → p ≡ over
ended_over (Gathering n) e = absurd (differ (sym e))
ended_over Running e = absurd (differ (sym e))
ended_over Ended e = refl

-- the reads so far: what they gave is behind the input, a byte at least for each
pub record Going (w w' : Lent) (o : List ℕ) (reads : ℕ) : Type 0 where
  pub out : HasRoom o
  pub bytes : List ℕ
  pub holds : (input : List ℕ) → Holds input w → Holds (input ++ bytes) w'
  pub more : reads ≤ length bytes

pub going_none : {w : Lent} {o : List ℕ} → Open w o → Going w w o 0
going_none a = record { out = a.out; bytes = []; holds = λ input h. rw (append-nil input) h; more = omega arith }

stopping : (taken : ℕ) (p : Progress) (bytes : ℕ) → ends_reading taken p ≡ true → Stops taken p bytes
stopping taken p bytes e = tested (eqb taken 0) (λ t. nothing_read (eqb-true taken 0 t)) (λ t. layout_refused (ended_over p (rw t at e)))

-- more bytes read don't begin it again
stops_behind : {taken : ℕ} {p : Progress} (input bytes : List ℕ) → Stops taken p (length bytes) → Stops taken p (length (input ++ bytes))
stops_behind input bytes (nothing_read e) = nothing_read e
stops_behind input bytes (layout_refused e) = layout_refused e
stops_behind input bytes (all_reads h) = all_reads (omega (arith, length-append input bytes))

pub was_read : {w w' : Lent} {o o' : List ℕ} {taken : ℕ} → Open w o → ReadsAll w w' o' taken → Read w' o' taken
was_read a k =
    record {
      under_way = record { out = k.out; input = a.input ++ k.bytes; holds = k.holds a.input a.holds };
      stops = stops_behind a.input k.bytes k.stops;
    }

-- the run is still under way
pub going_open : {w w' : Lent} {o o' : List ℕ} {reads : ℕ} (a : Open w o) → Going w w' o' reads → Open w' o'
going_open a g = record { out = g.out; input = a.input ++ g.bytes; holds = g.holds a.input a.holds }

-- one read more
module _ (block : List ℕ) {w v u : Lent} {o o' : List ℕ} {reads taken : ℕ} (g : Going w v o reads) (few : taken ≤ length block)
    (a : TakesAll (take taken block) v u o') where
  behind : (input : List ℕ) → Holds input w → Holds (input ++ (g.bytes ++ take taken block)) u
  behind input k = rw (← append_assoc input g.bytes (take taken block)) (a.holds (input ++ g.bytes) (g.holds input k))

  pub going_on : ends_reading taken u.progress ≡ false → Going w u o' (reads + 1)
  going_on e =
      let some = eqb-false taken 0 (or_false {a = eqb taken 0} e).0 in
      record {
        out = a.out;
        bytes = g.bytes ++ take taken block;
        holds = behind;
        more = omega (arith, g.more, length-append g.bytes (take taken block), length-take-le taken block few);
      }

  pub reads_end : ends_reading taken u.progress ≡ true → ReadsAll w u o' taken
  reads_end e =
      let bytes = g.bytes ++ take taken block in
      record { out = a.out; bytes = bytes; holds = behind; stops = stopping taken u.progress (length bytes) e }

-- so many reads that there can be no more
pub reads_out : {w w' : Lent} {o : List ℕ} {taken : ℕ} → Going w w' o most_reads → ReadsAll w w' o taken
reads_out g = record { out = g.out; bytes = g.bytes; holds = g.holds; stops = all_reads g.more }
