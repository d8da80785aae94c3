-- What is read and written piece by piece, one behind the other: what the reader gave is behind the input, and what it adds is behind what the writer
-- held. Assumes nothing.
use mathlib.Core.Bool.{true, false}
use mathlib.Core.List.{List, [], ◌∷◌, ◌++◌, append-nil, append_assoc, flatten}
use mathlib.Core.Path.{◌≡◌, refl, sym, ap, ◌∙◌}
use Prim.Native.Nat.{ℕ, ◌+◌, ◌-◌, ◌≤◌, ◌<◌}
use native.Mathlib.Omega.{arith}
use lib.Dec.{eqb}
use lib.ListN.{length, take, length-append}
use lib.Seq.{take-add, length-take-le}
use borrow.Author.Tests.{eqb-true, eqb-false}
use Rattle.std.specs.Prelude.{Option, Some, None, IsNone}
use Rattle.std.specs.Io.KnownBytes.{Appends, Consumes, IsAtEnd}
use Rattle.std.proofs.KnownBytes.{Appends-nil, Appends-trans, Consumes-nil, Consumes-trans}
use Rattle.lists.proofs.Tests.{tested, or_false}
use Rattle.lines.specs.Replay.{replay}
use Rattle.turn.specs.declared.blocks.Fed.{Fed}
use Rattle.turn.specs.Feed.{reach, point_after, adds, closing, by_pieces}
use Rattle.turn.proofs.Whole.{adds_more, pieces_behind}
use Rattle.replay.specs.Open.{Lent, IsStart, Holds, Open, part, TakesPart, TakesAll, ends_reading, most_reads}
use Rattle.replay.specs.Streams.{Writes, Streamed, WritesAll}
use Rattle.replay.specs.Streams.{Exhausts, all_given, layout_refused, most_given}
use Rattle.replay.proofs.Opening.{start_holds}
use Rattle.replay.proofs.Reading.{ended_over}
use Rattle.replay.proofs.Output.{lines_written, stopped}

-- ---- what is written
pub writes_none : {E : Type 0} (f : Option E) (held : Option (List ℕ)) → Writes f f held held []
writes_none f held = record { well = λ n. n; behind = λ n. Appends-nil held }

pub writes_more : {E : Type 0} {f g h : Option E} {a b c : Option (List ℕ)} {xs ys : List ℕ} → Writes f g a b xs → Writes g h b c ys → Writes f h a c (xs ++ ys)
writes_more {a = a} {b} {c} {xs} {ys} p q =
    record { well = λ n. p.well (q.well n); behind = λ n. Appends-trans a b c xs ys (p.behind (q.well n)) (q.behind n) }

-- between them the writer was left as it was
pub writes_since : {E : Type 0} {f g h : Option E} {a b c : Option (List ℕ)} {xs : List ℕ} → (IsNone g → IsNone f) → b ≡ a
    → Writes g h b c xs → Writes f h a c xs
writes_since well same p = record { well = λ n. well (p.well n); behind = λ n. rw same at p.behind n }

adds_none : (input : List ℕ) → adds input [] ≡ []
unfolding reach
adds_none input = refl

pub answers_none : {E : Type 0} (f : Option E) (held : Option (List ℕ)) (input : List ℕ) → Writes f f held held (adds input [])
answers_none f held input = rw (adds_none input) (writes_none f held)

-- what the lines taken of a block add is written behind what those before them add
pub block_answered : {E : Type 0} (block : List ℕ) {w v u : Lent} {out before after : List ℕ} {taken : ℕ} {r : Fed} {f g h : Option E}
    {a b c : Option (List ℕ)} → TakesAll (take taken block) w v out → TakesPart block taken v u before 0 after r
    → ((input : List ℕ) → Holds input w → Writes f g a b (adds input (take taken block))) → Writes g h b c (take r.next after)
    → (input : List ℕ) → Holds input w → Writes f h a c (adds input (take r.taken block))
block_answered block {taken = taken} {r} t p so_far now input i =
    let first = take taken block in
    let second = part taken r.taken block in
    let k : taken + (r.taken - taken) ≡ r.taken = omega (arith, p.onward) in
    let e = rw k at (take-add taken (r.taken - taken) block) in
    rw (e, adds_more input first second, ← lines_written p (input ++ first) (t.holds input i)) (writes_more (so_far input i) now)

-- ---- read after read
-- what the reader gave so far, a byte at least for each read
pub record Streaming {E : Type 0} (before after : Option E) (left leaves held holds : Option (List ℕ)) (w w' : Lent) (reads : ℕ) : Type 0 where
  pub bytes : List ℕ
  pub given : Consumes left leaves bytes
  pub behind : (input : List ℕ) → Holds input w → Holds (input ++ bytes) w'
  pub written : (input : List ℕ) → Holds input w → Writes before after held holds (adds input bytes)
  pub more : reads ≤ length bytes

pub streaming_none : {E : Type 0} (f : Option E) (left held : Option (List ℕ)) (w : Lent) → Streaming f f left left held held w w 0
streaming_none f left held w =
    record {
      bytes = [];
      given = Consumes-nil left;
      behind = λ input h. rw (append-nil input) h;
      written = λ input h. answers_none f held input;
      more = omega arith;
    }

-- one read more
module _ {E : Type 0} (block : List ℕ) {before mid after : Option E} {left leaves rest held holds out : Option (List ℕ)} {w v u : Lent}
    {reads : ℕ} (taken : ℕ) {o : List ℕ} (g : Streaming before mid left leaves held holds w v reads)
    (a : TakesAll (take taken block) v u o) (gave : Consumes leaves rest (take taken block))
    (said : (input : List ℕ) → Holds input v → Writes mid after holds out (adds input (take taken block))) where
  -- so many bytes at least
  streaming_more : (more : ℕ) → more ≤ length (g.bytes ++ take taken block) → Streaming before after left rest held out w u more
  streaming_more more h =
      record {
        bytes = g.bytes ++ take taken block;
        given = Consumes-trans left leaves rest g.bytes (take taken block) g.given gave;
        behind = λ input k. rw (← append_assoc input g.bytes (take taken block)) (a.holds (input ++ g.bytes) (g.behind input k));
        written =
            λ input k.
            rw (adds_more input g.bytes (take taken block)) (writes_more (g.written input k) (said (input ++ g.bytes) (g.behind input k)));
        more = h;
      }

  pub streaming_on : taken ≤ length block → ends_reading taken u.progress ≡ false → Streaming before after left rest held out w u (reads + 1)
  streaming_on few e =
      let some = eqb-false taken 0 (or_false {a = eqb taken 0} e).0 in
      streaming_more (reads + 1) (omega (arith, g.more, length-append g.bytes (take taken block), length-take-le taken block few))

  pub streaming_ends : (IsNone after → taken ≡ 0 → 0 < length block → IsAtEnd rest) → ends_reading taken u.progress ≡ true
      → Streamed before after left rest held out w u (length block)
  streaming_ends end e =
      let x = streaming_more 0 (omega arith) in
      record {
        bytes = x.bytes;
        given = x.given;
        behind = x.behind;
        written = x.written;
        exhausts = λ n some. tested (eqb taken 0) (λ t. all_given (end n (eqb-true taken 0 t) some))
            (λ t. layout_refused (ended_over u.progress (rw t at e)));
      }

-- so many reads that there can be no more
pub streaming_out : {E : Type 0} {before after : Option E} {left leaves held holds : Option (List ℕ)} {w w' : Lent} {size : ℕ}
    → Streaming before after left leaves held holds w w' most_reads → Streamed before after left leaves held holds w w' size
streaming_out g =
    record { bytes = g.bytes; given = g.given; behind = g.behind; written = g.written; exhausts = λ n some. most_given g.more }

-- ---- all that the reader had left
-- what it wasn't asked for would have added nothing
replayed_whole : (input given rest : List ℕ) {w : Lent} → Holds (input ++ given) w → Exhausts (Some rest) w.progress (length given)
    → length (given ++ rest) < most_reads → replay (input ++ (given ++ rest)) ≡ replay (input ++ given)
replayed_whole input given rest h (all_given e) few = rw (e, append-nil given) refl
replayed_whole input given rest h (layout_refused e) few = ap replay (sym (append_assoc input given rest)) ∙ stopped (input ++ given) h e rest
replayed_whole input given rest h (most_given m) few = absurd (omega (arith, length-append given rest))

answered_whole : {left leaves : Option (List ℕ)} (input given bytes : List ℕ) {w : Lent} → left ≡ Some bytes → Consumes left leaves given
    → Holds (input ++ given) w → Exhausts leaves w.progress (length given) → length bytes < most_reads → replay (input ++ bytes) ≡ replay (input ++ given)
answered_whole {left} {leaves} input given bytes {w} known c h x few = go leaves (rw known at c) x
  where
    go : (o : Option (List ℕ)) → Consumes (Some bytes) o given → Exhausts o w.progress (length given) → replay (input ++ bytes) ≡ replay (input ++ given)
    go None z y = absurd z
    go (Some rest) z y = rw z (replayed_whole input given rest h y (rw z at few))

pub all_answered : {E : Type 0} {before mid after : Option E} {left leaves held holds out : Option (List ℕ)} {w w' : Lent} {o : List ℕ} {size : ℕ}
    → Open w o → (k : Streamed before mid left leaves held holds w w' size)
    → ((input : List ℕ) → Holds input w' → Writes mid after holds out (closing (point_after input).state (point_after input).begun))
    → WritesAll before after left held out w size
unfolding by_pieces flatten
all_answered {before = before} {after = after} {held = held} {out = out} {w = w} o k last =
    record {
      well = λ n. (both o.input o.holds).well n;
      answered = λ n size input bytes i known few. record {
        output = by_pieces input (k.bytes ∷ []);
        whole = (
            let x = k.exhausts ((last (input ++ k.bytes) (k.behind input i)).well n) size in
            pieces_behind input (k.bytes ∷ []) ∙ ap (λ (l : List ℕ). replay (input ++ l)) (append-nil k.bytes)
            ∙ sym (answered_whole input k.bytes bytes known k.given (k.behind input i) x few)
            );
        written = (both input i).behind n;
      };
    }
  where
    both : (input : List ℕ) → Holds input w → Writes before after held out (by_pieces input (k.bytes ∷ []))
    both input i = writes_more (k.written input i) (last (input ++ k.bytes) (k.behind input i))

-- at its start the run has no input, so that what was written is the output for all that the reader had left
pub replayed_from_start : {E : Type 0} (bytes : List ℕ) {before after : Option E} {left held holds : Option (List ℕ)} {w : Lent} {size : ℕ} → IsStart w
    → WritesAll before after left held holds w size → IsNone after → 0 < size → left ≡ Some bytes → length bytes < most_reads
    → Appends held holds (replay bytes)
unfolding reach
replayed_from_start bytes {w = w} s a n some known few =
    let k = a.answered n some [] bytes (start_holds w s) known few in
    rw k.whole at k.written
