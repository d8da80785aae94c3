-- What the program's functions promise of the bytes that its reader had left and of those that its writer holds, where these are known; and of its
-- failures. Assumes nothing: these are definitions.
use Rattle.std.specs.Prelude.{List, ◌++◌, ◌≡◌, ℕ, ◌<◌, ◌≤◌, length, Option, Some, IsNone}
use Rattle.std.specs.Io.KnownBytes.{Appends, Consumes, IsAtEnd}
use Rattle.lines.specs.Replay.{replay}
use Rattle.turn.specs.declared.Progress.{Progress}
use Rattle.turn.specs.InWords.{over}
use Rattle.turn.specs.Feed.{point_after, adds}
use Rattle.replay.specs.Open.{Lent, Holds, most_reads}

-- unless a read or a write has failed by then, none had before, and these bytes were written behind those that the writer held
pub record Writes {E : Type 0} (before after : Option E) (held holds : Option (List ℕ)) (bytes : List ℕ) : Type 0 where
  pub well : IsNone after → IsNone before
  pub behind : IsNone after → Appends held holds bytes

-- why no more is read, where nothing failed: the reader has nothing left, or a refused layout has ended the run; or there were that many bytes
pub data Exhausts (left : Option (List ℕ)) (p : Progress) (bytes : ℕ) : Type 0 where
  all_given : IsAtEnd left → Exhausts left p bytes
  layout_refused : p ≡ over → Exhausts left p bytes
  most_given : most_reads ≤ bytes → Exhausts left p bytes

-- the bytes read are those that the reader gave: they came behind whatever input the words w kept the run of, and what they add was written
pub record Streamed {E : Type 0} (before after : Option E) (left leaves held holds : Option (List ℕ)) (w w' : Lent) (size : ℕ) : Type 0 where
  pub bytes : List ℕ
  pub given : Consumes left leaves bytes
  pub behind : (input : List ℕ) → Holds input w → Holds (input ++ bytes) w'
  pub written : (input : List ℕ) → Holds input w → Writes before after held holds (adds input bytes)
  pub exhausts : IsNone after → 0 < size → Exhausts leaves w'.progress (length bytes)

-- the output for an input and all that the reader had left behind it was written, but for what had been written for the input
pub record WritesRest (input bytes : List ℕ) (held holds : Option (List ℕ)) : Type 0 where
  pub output : List ℕ
  pub whole : (point_after input).output ++ output ≡ replay (input ++ bytes)
  pub written : Appends held holds output

-- unless a read or a write failed: whatever input the words w kept the run of, all that the reader had left was answered behind it
pub record WritesAll {E : Type 0} (before after : Option E) (left held holds : Option (List ℕ)) (w : Lent) (size : ℕ) : Type 0 where
  pub well : IsNone after → IsNone before
  pub answered : IsNone after → 0 < size → (input bytes : List ℕ) → Holds input w → left ≡ Some bytes → length bytes < most_reads
      → WritesRest input bytes held holds
