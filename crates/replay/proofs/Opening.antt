-- What is kept from one line to the next and from one read to the next, and what is gathered on the way. Assumes nothing.
use mathlib.Core.Bool.{◌&&◌, false}
use mathlib.Core.List.{List, [], ◌++◌, append-nil, append_assoc}
use mathlib.Core.Path.{◌≡◌, sym, ap, ◌∙◌}
use Prim.Native.Nat.{ℕ, ◌+◌, ◌-◌, ◌≤◌, ◌<◌}
use native.Mathlib.Decide.{dec_lt}
use native.Mathlib.Nat.{min-le_right}
use native.Mathlib.Omega.{arith}
use lib.Dec.{ltb, leb}
use lib.IntN.{ℤ, pos, negsuc}
use lib.ListN.{length, take, drop, length-drop}
use lib.Seq.{take-add, take_all, drop-drop, length-take-le}
use mir.Syntax.{w64}
use mir.Val.{SFits, to_z, of_z}
use mir.Facts.{to_z-of_z}
use borrow.Author.Tests.{lt-ltb, le-leb}
use Rattle.io.specs.Counts.{clamp_len}
use Rattle.lists.proofs.Tests.{differ}
use Rattle.lines.specs.Replay.{longest}
use Rattle.turn.specs.declared.blocks.Fed.{Fed}
use Rattle.turn.specs.declared.blocks.Reader.{Reader}
use Rattle.turn.specs.InWords.{InWords, LineFits}
use Rattle.turn.specs.Begun.{Begun}
use Rattle.turn.specs.Feed.{reach, point_after, Feeds}
use Rattle.turn.proofs.Feeding.{size_some, size_within}
use Rattle.turn.proofs.Storing.{none_stored}
use Rattle.turn.proofs.Whole.{point_onward, adds_more}
use Rattle.turn.proofs.Writing.{none_written, written_behind}
use Rattle.replay.specs.Open.{Lent, lent, IsStart, Holds, HasRoom, Open, part, Gathered, TakesPart, TakesAll}
use Rattle.replay.specs.declared.blocks.Kept.{Kept}

-- ---- the start of a run: a table of zeros, no entries, no line begun
pub start_holds : (w : Lent) → IsStart w → Holds [] w
unfolding reach
start_holds w s = record { in_words = rw s.1 (s.0, none_stored 32 5 w.list); stored = rw s.2 (none_stored 26 1 w.line) }

pub opened : (w : Lent) (out : List ℕ) → IsStart w → HasRoom out → Open w out
opened w out s h = record { out = h; input = []; holds = start_holds w s }

-- ---- one line of a block
-- more bytes behind an input
holds_more : (input bytes : List ℕ) {w : Lent} → (let p = reach (point_after input).state (point_after input).begun bytes in
    InWords p.state w.table w.list w.progress × Begun p.begun w.line w.begun) → Holds (input ++ bytes) w
holds_more input bytes h = record { in_words = rw (point_onward input bytes) h.0; stored = rw (point_onward input bytes) h.1 }

-- the part of the block that wasn't taken, as a slice has it
abbrev left : ℕ → List ℕ → List ℕ
left from block = take (length block - from) (drop from block)

module _ (block : List ℕ) {k : Kept} {r' : Reader} {t' out out' : List ℕ} {at from : ℕ} {r : Fed} (o : Open (lent k) out)
    (f : Feeds k.table k.reader (left from block) t' r' out at out' r) where
  pub fed_more : from < length block → (from < from + r.taken) × (from + r.taken ≤ length block)
  fed_more h =
      let n = length-take-le (length block - from) (drop from block) (simp length-drop (omega arith)) in
      (omega (arith, f.taken, size_some (left from block) (omega arith)), omega (arith, f.taken, size_within (left from block)))

  pub fed_gathers : from < length block → LineFits at (length out) → length out' ≡ length out
      → TakesPart block from (lent k) (lent (record { table = t'; reader = r' })) out at out' (record { taken = from + r.taken; next = r.next })
  fed_gathers q h d =
      let p = point_after o.input in
      let x = f.comes p.state p.begun o.holds.in_words o.holds.stored in
      record {
        out = omega (arith, o.out);
        onward = omega arith;
        within = (fed_more q).1;
        fits = omega (arith, x.written.place, x.few);
        gathered = gathered;
      }
    where
      gathered : (input : List ℕ) → Holds input (lent k)
          → Gathered input (part from (from + r.taken) block) (lent (record { table = t'; reader = r' })) out at out' r.next
      gathered input h =
          let e : (from + r.taken) - from ≡ r.taken = omega arith in
          let x = f.comes (point_after input).state (point_after input).begun h.in_words h.stored in
          let g : left from block ≡ drop from block =
          take_all (length block - from) (drop from block) (simp length-drop (omega arith)) in
          rw (e, ← g) (record { holds = holds_more input (take r.taken (left from block)) (x.in_words, x.stored); written = x.written })

-- ---- line after line
part_none : (from : ℕ) (block : List ℕ) → part from from block ≡ []
part_none from block = let e : from - from ≡ 0 = omega arith in rw e

part_more : (from mid to : ℕ) (block : List ℕ) → from ≤ mid → mid ≤ to → part from to block ≡ part from mid block ++ part mid to block
part_more from mid to block h k =
    let e : to - from ≡ (mid - from) + (to - mid) = omega arith in
    let g : from + (mid - from) ≡ mid = omega arith in
    rw e (take-add (mid - from) (to - mid) (drop from block)
    ∙ ap (λ (x : List ℕ). part from mid block ++ take (to - mid) x) (drop-drop (mid - from) from block ∙ ap (λ (n : ℕ). drop n block) g))

-- none was taken yet
pub gathers_none : {block : List ℕ} {from : ℕ} {w : Lent} {out : List ℕ} {r : Fed} → HasRoom out → from ≤ length block
    → from ≡ r.taken → r.next ≡ 0 → TakesPart block from w w out 0 out r
unfolding reach
gathers_none {block} {from} {w} {out} {r} z h e n =
    record {
      out = z;
      onward = omega arith;
      within = omega arith;
      fits = omega arith;
      gathered = λ input i. rw (← e, part_none from block, n) (record { holds = rw (append-nil input) i; written = none_written out 0 });
    }

pub gathers_more : {block : List ℕ} {from at : ℕ} {w v u : Lent} {before out after : List ℕ} {r r' : Fed} → TakesPart block from w v before at out r
    → TakesPart block r.taken v u out r.next after r' → TakesPart block from w u before at after r'
gathers_more {block} {from} {r = r} {r'} a b =
    record {
      out = b.out;
      onward = omega (arith, a.onward, b.onward);
      within = b.within;
      fits = b.fits;
      gathered = λ input i. (
          let x = a.gathered input i in
          let first = part from r.taken block in
          let second = part r.taken r'.taken block in
          let y = b.gathered (input ++ first) x.holds in
          rw (part_more from r.taken r'.taken block a.onward b.onward)
          (record {
            holds = rw (← append_assoc input first second) y.holds;
            written = rw (adds_more input first second) (written_behind x.written y.written);
          })
          );
    }

-- there was room for one line at least
pub gathers_some : {block : List ℕ} {from : ℕ} {w w' : Lent} {out before after : List ℕ} {r : Fed} → Open w out → from < length block
    → TakesPart block from w w' before 0 after r → (ltb r.taken (length block) && leb r.next (length after - longest)) ≡ false → from < r.taken
unfolding reach
gathers_some {block} {from} {after = after} {r} o h a f = go (dec_lt from r.taken)
  where
    go : Dec (from < r.taken) → from < r.taken
    go (yes k) = k
    go (no k) =
        let e : r.taken ≡ from = omega (arith, a.onward) in
        let g : part from r.taken block ≡ [] = rw e (part_none from block) in
        let n : r.next ≡ 0 = rw g at (a.gathered o.input o.holds).written.place in
        absurd (differ (sym (rw (lt-ltb r.taken (length block) (omega arith), le-leb r.next (length after - longest) (omega arith))) ∙ f))

-- ---- the whole block
pub block_none : (block : List ℕ) {w : Lent} {out : List ℕ} → HasRoom out → TakesAll (take 0 block) w w out
block_none block z = record { out = z; holds = λ input h. rw (append-nil input) h }

pub block_more : (block : List ℕ) {w v u : Lent} {out before after : List ℕ} {taken : ℕ} {r : Fed} → TakesAll (take taken block) w v out
    → TakesPart block taken v u before 0 after r → TakesAll (take r.taken block) w u after
block_more block {taken = taken} {r} a b =
    let k : taken + (r.taken - taken) ≡ r.taken = omega (arith, b.onward) in
    let e = rw k at (take-add taken (r.taken - taken) block) in
    record {
      out = b.out;
      holds = λ input h. rw (e, ← append_assoc input (take taken block) (part taken r.taken block))
          (b.gathered (input ++ take taken block) (a.holds input h)).holds;
    }

-- ---- the bytes that a read gave
clamped_within : (got : ℤ) (most : ℕ) → clamp_len got most ≤ most
clamped_within (pos k) most = min-le_right k most
clamped_within (negsuc k) most = omega arith

-- how many it gave, whichever way the number is told
pub counted : {got : ℤ} {n : ℕ} (most : ℕ) → SFits w64 got → n ≡ clamp_len (to_z w64 (of_z w64 got)) most → n ≡ clamp_len got most
counted most f e = e ∙ ap (λ (z : ℤ). clamp_len z most) (to_z-of_z f)
