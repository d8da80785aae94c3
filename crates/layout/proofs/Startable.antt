-- A list of counters by its words: the counters from some place on, one of them and those behind it, or none. Assumes nothing.
use Prim.Native.Nat.{ℕ, ◌+◌, ◌≤◌, ◌<◌}
use mathlib.Core.Bool.{true, ◌&&◌}
use mathlib.Core.List.{List}
use mathlib.Core.Path.{◌≡◌}
use lib.ListN.{length, get_or, drop}
use lib.Dec.{leb}
use Rattle.std.proofs.lemmas.List.{at_drop_more, at_drop_all}
use Rattle.machine.specs.Layout.{startable}

pub startable_more : (l : List ℕ) (i : ℕ) → i < length l → startable (drop i l) ≡ (leb (get_or l i 0) 32767 && startable (drop (i + 1) l))
unfolding startable
startable_more l i h = at_drop_more startable l i 0 h

pub startable_all : (l : List ℕ) (i : ℕ) → length l ≤ i → startable (drop i l) ≡ true
unfolding startable
startable_all l i h = at_drop_all startable l i h
