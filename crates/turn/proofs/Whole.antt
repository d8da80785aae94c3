-- The whole run: what the replay writes for an input is what its pieces add, one after the other and cut anywhere, and then what its end writes; once a run has
-- ended nothing more is written. Assumes nothing.
use mathlib.Core.Bool.{Bool, true, false}
use mathlib.Core.List.{List, [], ◌∷◌, ◌++◌, append-nil, append_assoc, flatten}
use mathlib.Core.Path.{◌≡◌, refl, sym, ap, ◌∙◌}
use Prim.Native.Nat.{ℕ}
use lib.Dec.{eqb}
use borrow.Author.Tests.{eqb-true, eqb-false}
use Rattle.machine.specs.Queue.{if}
use Rattle.lists.proofs.Tests.{either}
use Rattle.text.specs.Cut.{cut}
use Rattle.lines.specs.Replay.{State, Gathering, Ended, turn, next, last, run, replay}
use Rattle.lines.proofs.Run.{run_ends, run_goes}
use Rattle.turn.specs.Feed.{Point, behind, reach, point_after, adds, closing, by_pieces}

-- ---- bytes behind bytes
-- from a point on
abbrev onward : Point → List ℕ → Point
onward p bytes = behind p.output (reach p.state p.begun bytes)

blocks : (s : State) (begun a b : List ℕ) → reach s begun (a ++ b) ≡ onward (reach s begun a) b
unfolding reach
blocks s begun [] b = refl
blocks s begun (c ∷ a) b = go (eqb c 0x0A) _ _ (blocks (next s begun).state [] a b) (blocks s (begun ++ (c ∷ [])) a b)
  where
    out : List ℕ
    out = (next s begun).output

    go : (t : Bool) {x y : Point} (p q : Point) → x ≡ onward p b → y ≡ onward q b → if t (behind out x) y ≡ onward (if t (behind out p) q) b
    go true p q e f =
        let r = reach p.state p.begun b in
        ap (behind out) e ∙ ap (λ (o : List ℕ). record { state = r.state; begun = r.begun; output = o }) (sym (append_assoc out p.output r.output))
    go false p q e f = f

pub point_onward : (input bytes : List ℕ) → point_after (input ++ bytes) ≡ onward (point_after input) bytes
point_onward input bytes = blocks (Gathering []) [] input bytes

pub adds_more : (input a b : List ℕ) → adds input (a ++ b) ≡ adds input a ++ adds (input ++ a) b
adds_more input a b =
    let p = point_after input in
    let q = reach p.state p.begun a in
    ap (λ (x : Point). x.output) (blocks p.state p.begun a b)
    ∙ ap (λ (x : Point). q.output ++ (reach x.state x.begun b).output) (sym (point_onward input a))

-- ---- the end
-- all that was written where the input ends at a point
abbrev closed : Point → List ℕ
closed p = p.output ++ closing p.state p.begun

reached : (s : State) (begun bytes : List ℕ) → run s (cut begun bytes) ≡ closed (reach s begun bytes)
unfolding reach
reached s begun [] = refl
reached s begun (c ∷ l) = go (eqb c 0x0A) _ _ refl (reached (next s begun).state [] l) (reached s (begun ++ (c ∷ [])) l)
  where
    out : List ℕ
    out = (next s begun).output

    go : (t : Bool) (p q : Point) → eqb c 0x0A ≡ t → run (next s begun).state (cut [] l) ≡ closed p → run s (cut (begun ++ (c ∷ [])) l) ≡ closed q
        → run s (cut begun (c ∷ l)) ≡ closed (if t (behind out p) q)
    go true p q e f g =
        rw (eqb-true c 0x0A e) (run_ends s begun l ∙ ap (λ (o : List ℕ). out ++ o) f ∙ sym (append_assoc out p.output (closing p.state p.begun)))
    go false p q e f g = run_goes s begun c l (eqb-false c 0x0A e) ∙ g

whole : (input : List ℕ) → replay input ≡ closed (point_after input)
unfolding replay
whole input = reached (Gathering []) [] input

-- ---- pieces
pub pieces_behind : (input : List ℕ) (l : List (List ℕ)) → (point_after input).output ++ by_pieces input l ≡ replay (input ++ flatten l)
unfolding by_pieces flatten
pieces_behind input [] = rw (append-nil input) (sym (whole input))
pieces_behind input (bytes ∷ l) =
    let before = (point_after input).output in
    let e : before ++ adds input bytes ≡ (point_after (input ++ bytes)).output = ap (λ (x : Point). x.output) (sym (point_onward input bytes)) in
    sym (append_assoc before (adds input bytes) (by_pieces (input ++ bytes) l))
    ∙ ap (λ (x : List ℕ). x ++ by_pieces (input ++ bytes) l) e
    ∙ pieces_behind (input ++ bytes) l
    ∙ ap replay (append_assoc input bytes (flatten l))

-- an input that comes in pieces, cut anywhere
pub pieces : (l : List (List ℕ)) → by_pieces [] l ≡ replay (flatten l)
unfolding reach
pieces l = pieces_behind [] l

-- ---- a run that has ended
ended_on : (begun bytes : List ℕ) → ((reach Ended begun bytes).state ≡ Ended) × ((reach Ended begun bytes).output ≡ [])
unfolding reach turn
ended_on begun [] = (refl, refl)
ended_on begun (c ∷ l) =
    either (λ (p : Point). (p.state ≡ Ended) × (p.output ≡ [])) (eqb c 0x0A) (λ t. ended_on [] l) (λ t. ended_on (begun ++ (c ∷ [])) l)

ended_closing : (begun : List ℕ) → closing Ended begun ≡ []
unfolding run cut turn last
ended_closing [] = refl
ended_closing (x ∷ begun) = refl

ended_closed : (s : State) (begun output rest : List ℕ) → s ≡ Ended
    → closed (onward (record { state = s; begun = begun; output = output }) rest) ≡ output ++ closing s begun
ended_closed s begun output rest e =
    let (state, silent) = ended_on begun rest in
    rw (e, state, silent, ended_closing (reach Ended begun rest).begun, ended_closing begun) (simp append-nil)

-- what comes then may stay unread
pub unread : (input rest : List ℕ) → (point_after input).state ≡ Ended → replay (input ++ rest) ≡ replay input
unread input rest e =
    let p = point_after input in
    whole (input ++ rest) ∙ ap closed (point_onward input rest) ∙ ended_closed p.state p.begun p.output rest e ∙ sym (whole input)
