-- The layout by the entries stored is the layout by all of them. Assumes nothing.
use mathlib.Core.List.{List, []}
use mathlib.Core.Path.{◌≡◌, sym, ap, ◌∙◌}
use Prim.Native.Nat.{ℕ, ◌*◌, ◌<◌}
use native.Mathlib.Decide.{dec_lt}
use native.Mathlib.Omega.{arith}
use lib.ListN.{length, take}
use lib.Seq.{length-take-le}
use Rattle.machine.specs.declared.exchange.Answer.{Answer as Given}
use Rattle.machine.specs.Exchange.{said}
use Rattle.machine.specs.Words.{Shows}
use Rattle.machine.specs.Step.{Answer as Reply, refused}
use Rattle.machine.specs.Refusal.{first}
use Rattle.machine.specs.Legal.{Legal}
use Rattle.machine.specs.Layout.{entries, startable, layout_refusal}
use Rattle.lines.specs.Replay.{table, machine_by}
use Rattle.laws.proofs.Fives.{list_too_long}
use Rattle.laws.proofs.Laid.{legal_laid, tells_layout, accepted_list}
use Rattle.monitor.specs.Promise.{LaidOut}
use Rattle.turn.specs.InWords.{Entries, Zeros, Accepts, Refuses}

-- over 160 words are refused with 11, whatever they are
pub refused_long : (ws : List ℕ) (n : ℕ) → 160 < length ws → layout_refusal ws 0 [] n ≡ 11
unfolding layout_refusal startable first
refused_long ws n h = rw (← list_too_long ws h)

-- a table that isn't refused is laid out as a legal machine
pub legal_by : (ws : List ℕ) (n : ℕ) → layout_refusal ws 0 [] n ≡ 0 → Legal (machine_by ws)
legal_by ws n e = (let h = accepted_list ws 0 [] n e in legal_laid _ 0 [] h.0 (entries ws) ((tells_layout (entries ws)).holds h.1))

module _ (ws : List ℕ) {list t u : List ℕ} {n : ℕ} {r : Reply} (e : Entries ws list n) (h : length list ≡ 165) (z : Zeros t)
    (o : LaidOut (take (5 * n) list) 0 [] t u r) where
  -- its number is that of the layout by all
  laid_number : r.number ≡ layout_refusal ws 0 [] (length table)
  laid_number = number ∙ go (dec_lt 32 n)
    where
      number : r.number ≡ layout_refusal (take (5 * n) list) 0 [] (length table)
      number = ap (λ (x : Reply). x.number) o.answer ∙ ap (λ (x : List ℕ). layout_refusal (take (5 * n) list) 0 [] (length x)) z

      go : Dec (32 < n) → layout_refusal (take (5 * n) list) 0 [] (length table) ≡ layout_refusal ws 0 [] (length table)
      go (yes k) =
          let l = length-take-le (5 * n) list (omega arith) in
          refused_long (take (5 * n) list) (length table) (omega arith) ∙ sym (refused_long ws (length table) (omega (arith, e.many k)))
      go (no k) = ap (λ (x : List ℕ). layout_refusal x 0 [] (length table)) (sym (e.words (omega arith)))

  number_of_answer : r.number ≡ layout_refusal (take (5 * n) list) 0 [] (length t)
  number_of_answer = ap (λ (x : Reply). x.number) o.answer

  pub accepts : r.number ≡ 0 → Accepts ws u
  accepts y = record { number = sym laid_number ∙ y; words = go (dec_lt 32 n) }
    where
      go : Dec (32 < n) → Shows u (machine_by ws)
      go (yes k) = absurd (omega (arith, laid_number, refused_long ws (length table) (omega (arith, e.many k))))
      go (no k) = rw (e.words (omega arith), ← z) (o.words (sym number_of_answer ∙ y))

  pub refuses : {a : Given} → (r.number ≡ 0 → ⊥) → said a ≡ r → Refuses ws u a
  refuses y f =
      record {
        number = λ k. y (laid_number ∙ k);
        answer = f ∙ o.answer ∙ ap refused (sym number_of_answer ∙ laid_number);
        unchanged = o.unchanged (λ k. y (number_of_answer ∙ k)) ∙ z;
      }
