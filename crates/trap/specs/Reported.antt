-- What the entries for C and Rust promise of docs/MONITOR.md, 17.1: the report of `stuck` or `rings` goes into three lent words. Assumes nothing: these are
-- definitions.
use Rattle.std.specs.Prelude.{◌≡◌, List, [], ◌∷◌, ℕ}
use Rattle.std.proofs.lemmas.List.Edits.{sets}
use Rattle.lists.specs.Counts.{bit}
use Rattle.stuck.specs.declared.ChainReport.{ChainReport}
use Rattle.stuck.specs.declared.RingReport.{RingReport}
use Rattle.stuck.specs.Chain.{Reports}
use Rattle.stuck.specs.Rings.{ReportsRings}

-- number, count, and 1 for a ring
abbrev pub chain_words : ChainReport → List ℕ
chain_words r = r.number ∷ r.count ∷ bit r.ring ∷ []

-- on the words t, for process p, the room s becomes v and the report w becomes u
pub record StuckTold (t s v : List ℕ) (p : ℕ) (w u : List ℕ) : Type 0 where
  pub report : ChainReport
  pub reports : Reports t s v p report
  pub words : u ≡ sets w 0 (chain_words report)

-- number, how many rings, how many words
abbrev pub ring_words : RingReport → List ℕ
ring_words r = r.number ∷ r.rings ∷ r.words ∷ []

-- and of all rings
pub record RingsTold (t s v w u : List ℕ) : Type 0 where
  pub report : RingReport
  pub reports : ReportsRings t s v report
  pub words : u ≡ sets w 0 (ring_words report)
