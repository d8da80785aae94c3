-- A word read at a place, and a word stored there. Assumes nothing.
use Prim.Native.Nat.{ℕ, ◌+◌, ◌<◌}
use native.Mathlib.Omega.{arith}
use mathlib.Core.List.{List}
use mathlib.Core.Path.{◌≡◌, sym, ap, ◌∙◌}
use lib.ListN.{length, get_or, set, length-set}
use lib.Seq.{get_or-set_same, get_or-set_other, drop-set-lt}
use Rattle.machine.specs.Machine.{Machine, semaphores}
use Rattle.machine.specs.Words.{Place, Header, Buffer, index, Has, size, Links, word, Table, ShowsLinks}
use Rattle.lists.proofs.Links.{cases}
use Rattle.laws.proofs.Places.{below, one_place}

-- a store at the place l, where w' has v and otherwise says what w says
pub store : {t : List ℕ} {n k h : ℕ} {w w' : Place → ℕ} {r : List ℕ} (l : Place) (v : ℕ) → Has n k h l → Table t n k h w r
    → w' l ≡ v → ((j : Place) → Has n k h j → (j ≡ l → ⊥) → w j ≡ w' j) → Table (set t (index n k l) v) n k h w' r
store {t} {n} {k} {h} {w} {w'} l v has s here else =
    let i = index n k l in
    let low : i < length t = omega (arith, below n k h l has, s.long) in
    record {
      long = rw length-set s.long;
      at = λ j o. cases (index n k j) i
          (λ e. rw e (get_or-set_same t i v 0 low ∙ sym (ap w' (one_place n k h j l o has e) ∙ here)))
          (λ ne. get_or-set_other t i (index n k j) v 0 ne ∙ s.at j o ∙ else j o (λ e. ne (ap (index n k) e)));
      beyond = drop-set-lt (size n k h) t i v (below n k h l has) ∙ s.beyond;
    }

-- the places of a machine's table
abbrev pub HasOf : Machine → Place → Type 0
HasOf m = Has m.P m.B (semaphores m)

-- the same words
pub reword : {t : List ℕ} {n k h : ℕ} {w w' : Place → ℕ} {r : List ℕ} → ((l : Place) → Has n k h l → w l ≡ w' l) → Table t n k h w r → Table t n k h w' r
reword e s = record { long = s.long; at = λ l h. s.at l h ∙ e l h; beyond = s.beyond }

-- ---- by the numbers of processes and buffers that the table's first two words tell
module _ {t : List ℕ} {m : Machine} {v : Links} (s : ShowsLinks t m v) where
  pub first_word : get_or t 0 0 ≡ m.P
  first_word = s.table.at (Header 0) (omega arith)

  pub second_word : get_or t 1 0 ≡ m.B
  second_word = s.table.at (Header 1) (omega arith)

  pub in_table : (l : Place) → HasOf m l → index (get_or t 0 0) (get_or t 1 0) l < length t
  in_table l h = rw (first_word, second_word) (omega (arith, below m.P m.B (semaphores m) l h, s.table.long))

  pub word_there : (l : Place) → HasOf m l → get_or t (index (get_or t 0 0) (get_or t 1 0) l) 0 ≡ word m v l
  word_there l h = rw (first_word, second_word) (s.table.at l h)

  pub stored : {w : Place → ℕ} (l : Place) (x : ℕ) → HasOf m l → w l ≡ x → ((j : Place) → HasOf m j → (j ≡ l → ⊥) → word m v j ≡ w j)
      → Table (set t (index (get_or t 0 0) (get_or t 1 0) l) x) m.P m.B (semaphores m) w m.beyond
  stored l x h here else = rw (first_word, second_word) (store l x h s.table here else)

-- word g of the buffer whose record starts at i
pub buffer_stands : {t : List ℕ} {m : Machine} {v : Links} (b g i : ℕ) → ShowsLinks t m v → i ≡ index m.P m.B (Buffer b 0)
    → i + g ≡ index (get_or t 0 0) (get_or t 1 0) (Buffer b g)
buffer_stands b g i s e = omega (arith, e, first_word s)
