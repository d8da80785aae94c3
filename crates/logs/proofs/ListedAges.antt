-- (vi) Demand 3 of what the code promises, of ages: each row of a listing after a real log says how many ticks the log has since its send. Assumes nothing.
use Prim.Native.Nat.{ℕ, zero, suc, ◌+◌, ◌*◌, ◌≤◌, ◌<◌}
use native.Mathlib.Omega.{arith}
use mathlib.Core.List.{List, [], ◌∷◌, ◌++◌}
use mathlib.Core.Logic.{inl, inr}
use mathlib.Core.Path.{◌≡◌, refl}
use lib.ListN.{length, get_or}
use Rattle.machine.specs.Queue.{Range, In}
use Rattle.machine.specs.Machine.{Words}
use Rattle.machine.specs.Refusal.{row_width}
use Rattle.machine.specs.Step.{Answer}
use Rattle.machine.specs.Log.{Talk, Log, left, open_with, listed}
use Rattle.lists.proofs.Tells.{eq, nay}
use Rattle.monitor.specs.Promise.{Called}
use Rattle.logs.specs.Real.{Real}
use Rattle.logs.specs.Sent.{Since, SentBefore}
use Rattle.logs.proofs.Listing.{open_exact}
use Rattle.logs.proofs.Written.{real_recorded}
use Rattle.logs.proofs.Demand3.{log_lists}
use Rattle.logs.proofs.Ages.{age_since}
use Rattle.logs.proofs.Sent.{older_sent_before}

-- what holds of each buffer and its age holds of the first and the last word of each row
rows_say : (C : ℕ → ℕ → Type 0) (f : ℕ → Talk) (l more : List ℕ) → ((b : ℕ) → In b l → C b (f b).age) → (i : ℕ) → i < length l
    → C (get_or (listed f l ++ more) (row_width * i) 0) (get_or (listed f l ++ more) (row_width * i + 4) 0)
unfolding listed
rows_say C f [] more h i u = absurd (omega arith)
rows_say C f (b ∷ l) more h zero u = h b (inl refl)
rows_say C f (b ∷ l) more h (suc i) u =
    let e : row_width * suc i ≡ suc (suc (suc (suc (suc (row_width * i))))) = omega arith in
    let e₄ : row_width * suc i + 4 ≡ suc (suc (suc (suc (suc (row_width * i + 4))))) = omega arith in
    rw (e₄, e) (rows_say C f l more (λ k j. h k (inr j)) i (omega arith))

-- ---- row i of the room after call 0B for process p
module _ {g : Log} {u : List ℕ} (h : Real g u) (p : ℕ) (j : Range (length g.list) p) {u' room room' : List ℕ} {b : ℕ} {ws : Words} {r : Answer}
    (fits : row_width * length (open_with g p) ≤ length room) (c : Called u u' room room' 11 p b ws r) (i : ℕ) (k : i < r.kind) where
  -- its age is "the number of ticks accepted in the log since that send, or 65,535 if more"
  pub listed_age : Since (get_or room' (row_width * i) 0) g.calls (get_or room' (row_width * i + 4) 0)
  listed_age =
      let s = log_lists h p j fits c in
      let age : (b : ℕ) → In b (open_with g p) → Since b g.calls (left g b).age = λ b m.
      (let o = (open_exact g p).only b m in age_since (real_recorded h) b o.is ((nay (eq _ _)).back o.not_free)) in
      rw s.rows (rows_say (λ b a. Since b g.calls a) (left g) (open_with g p) _ age i (omega (arith, s.kind, k)))

  -- and one of n ticks or older was sent before the n-th last tick of the log
  pub listed_older : (n : ℕ) → 1 ≤ n → n ≤ get_or room' (row_width * i + 4) 0 → SentBefore (get_or room' (row_width * i) 0) g.calls n
  listed_older = older_sent_before listed_age
