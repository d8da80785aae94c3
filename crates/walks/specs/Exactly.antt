-- docs/MONITOR.md, 13, by the words before and after a call: who entered the running queue, and how many records each passed. No walk is
-- computed here. Assumes nothing: these are definitions.
use Rattle.std.specs.Prelude.{Bool, not, ◌&&◌, List, [], ◌∷◌, ◌≡◌, ℕ, ◌+◌, max, eqb, leb, length, get_or}
use Rattle.machine.specs.Numbers.{call_tick, call_interrupt}
use Rattle.machine.specs.Records.{header_first, process_state, process_priority}
use Rattle.machine.specs.Queue.{if, from, keep}
use Rattle.machine.specs.Walk.{Walk}
use Rattle.machine.specs.Sound.{P_of, process_at}

-- ---- of n processes, by their states before and after
-- those that entered: they don't run before and do after; rising
abbrev pub entering : ℕ → (ℕ → ℕ) → (ℕ → ℕ) → List ℕ
entering n before after = keep (λ p. not (eqb (before p) 1) && eqb (after p) 1) (from 1 n)

-- those that run all along
abbrev pub remaining : ℕ → (ℕ → ℕ) → (ℕ → ℕ) → List ℕ
remaining n before after = keep (λ p. eqb (before p) 1 && eqb (after p) 1) (from 1 n)

-- the lowest priority that p passes: its own, "or only of higher priority for an interrupt"
abbrev pub lowest : Bool → (ℕ → ℕ) → ℕ → ℕ
lowest interrupt priority p = if interrupt (priority p + 1) (priority p)

-- what each that enters passes, one behind the other: "exactly the running processes of equal or higher priority", among them those that
-- entered before it
unfoldable pub parts : Bool → (ℕ → ℕ) → List ℕ → List ℕ → List ℕ
parts interrupt priority running [] = []
parts interrupt priority running (p ∷ l) =
    length (keep (λ k. leb (lowest interrupt priority p) (priority k)) running) ∷ parts interrupt priority (p ∷ running) l

unfoldable pub together : List ℕ → ℕ
together [] = 0
together (n ∷ l) = n + together l

unfoldable pub greatest : List ℕ → ℕ
greatest [] = 0
greatest (n ∷ l) = max n (greatest l)

-- the move of (iii): of those that run afterwards, the others of equal or higher priority; "If current was 0 there is nothing to move"
abbrev pub moving_past : ℕ → ℕ → (ℕ → ℕ) → (ℕ → ℕ) → ℕ
moving_past n current priority after =
    if (eqb current 0) 0 (length (keep (λ k. eqb (after k) 1 && (not (eqb k current) && leb (priority current) (priority k))) (from 1 n)))

-- ---- the walk told
pub record Exactly (n : ℕ) (priority before after : ℕ → ℕ) (interrupt : Bool) (moved : ℕ) (w : Walk) : Type 0 where
  pub entries : w.entries ≡ length (entering n before after)
  pub passed : w.passed ≡ together (parts interrupt priority (remaining n before after) (entering n before after))
  pub most : w.most ≡ greatest (parts interrupt priority (remaining n before after) (entering n before after))
  pub moves : w.moved ≡ moved

-- of call k, which takes the words t to u: 0A is the interrupt, and only 09 moves
abbrev pub WalksExactly : ℕ → List ℕ → List ℕ → Walk → Type 0
WalksExactly k t u w =
    Exactly (P_of t) (λ p. process_at t p process_priority) (λ p. process_at t p process_state) (λ p. process_at u p process_state) (eqb k call_interrupt)
    (if (eqb k call_tick) (moving_past (P_of t) (get_or t header_first 0) (λ p. process_at t p process_priority) (λ p. process_at u p process_state)) 0) w
