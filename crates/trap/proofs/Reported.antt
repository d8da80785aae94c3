-- Two reports that an entry of docs/MONITOR.md, 17.1 may leave are the same. Assumes nothing.
use mathlib.Core.Path.{◌≡◌, refl, sym, ap, ◌∙◌}
use mathlib.Core.Bool.{Bool, true, false}
use mathlib.Core.List.{List}
use Prim.Native.Nat.{ℕ}
use lib.Seq.{sets}
use mir.Val.{bool_byte}
use Rattle.lists.specs.Counts.{bit}
use Rattle.stuck.specs.declared.ChainReport.{ChainReport}
use Rattle.stuck.specs.declared.RingReport.{RingReport}
use Rattle.stuck.proofs.Told.{reports_one}
use Rattle.stuck.proofs.RingsTold.{rings_one}
use Rattle.trap.specs.Reported.{chain_words, StuckTold, ring_words, RingsTold}

-- a bool as a word
pub ring_word : (b : Bool) → bool_byte b ≡ bit b
ring_word true = refl
ring_word false = refl

-- any two results that the promises allow are equal: room and report
pub stuck_told_one : {t s v v' : List ℕ} {p : ℕ} {w u u' : List ℕ} → StuckTold t s v p w u → StuckTold t s v' p w u' → (v ≡ v') × (u ≡ u')
stuck_told_one {w = w} x y =
    let e = reports_one x.reports y.reports in
    (e.1, x.words ∙ ap (λ (r : ChainReport). sets w 0 (chain_words r)) e.0 ∙ sym y.words)

pub rings_told_one : {t s v v' w u u' : List ℕ} → RingsTold t s v w u → RingsTold t s v' w u' → (v ≡ v') × (u ≡ u')
rings_told_one {w = w} x y =
    let e = rings_one x.reports y.reports in
    (e.1, x.words ∙ ap (λ (r : RingReport). sets w 0 (ring_words r)) e.0 ∙ sym y.words)
