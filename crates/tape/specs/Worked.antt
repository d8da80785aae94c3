-- Worked tapes, by computation: every mode, every class, and each refusal at its bound. Assumes nothing.
use Rattle.std.specs.Prelude.{List, [], ◌∷◌, ◌++◌, ◌≡◌, refl, ℕ, ℤ, pos, negsuc, replicate}
use Rattle.tape.specs.Parity.{ones, odd, treated}
use Rattle.tape.specs.Character.{settled, look_up, character}
use Rattle.tape.specs.Tape.{run, taken, Result}

-- an operation that is done, with what was stored, read, the base, the status and the area; and one that is refused
abbrev done : ℕ → ℕ → ℤ → ℕ → List ℕ → Result
done stored read base status area = record { number = 0; stored = stored; read = read; base = base; status = status; area = area }

abbrev refused : ℕ → ℤ → List ℕ → Result
refused number base area = record { number = number; stored = 0; read = 0; base = base; status = 0; area = area }

-- an area of two bytes that hold 7, and one of three
abbrev two : List ℕ
two = 7 ∷ 7 ∷ []

abbrev three : List ℕ
three = 7 ∷ two

-- the words of characters 0 to 5: 0 becomes 41 hex; 1 is skipped; 2 moves the base down by 1, and 3 up by 256; 4 ends the block; 5 becomes 42 with class 136
abbrev table : List ℕ
table = 0x0041 ∷ 0x8000 ∷ 0x8101 ∷ 0x8200 ∷ 0x8400 ∷ 0x8842 ∷ []

-- ---- modes, without conversion
pub record Modes : Type 0 where
  -- mode 1 delivers all eight bits, by no table
  pub binary : taken 1 (0x80 ∷ 0x03 ∷ []) table (pos 9) three ≡ done 2 2 (pos 9) 0 (0x80 ∷ 0x03 ∷ 7 ∷ [])
  -- 80 and 01 hex have an odd number of ones, 03 and 81 an even one; a wrong one becomes 26, which alone sets no status; the top bit goes
  pub odd_parity : taken 5 (0x80 ∷ 0x03 ∷ 0x01 ∷ []) [] (pos 0) three ≡ done 3 3 (pos 0) 0 (0 ∷ 26 ∷ 1 ∷ [])
  pub even_parity : taken 9 (0x80 ∷ 0x03 ∷ 0x81 ∷ []) [] (pos 0) three ≡ done 3 3 (pos 0) 0 (26 ∷ 3 ∷ 1 ∷ [])
  -- any other is refused, whatever the tape; no bits of it are left out
  pub none : taken 0 (0x00 ∷ []) table (pos 5) two ≡ refused 15 (pos 5) two
  pub four : taken 4 [] [] (pos 5) [] ≡ refused 15 (pos 5) []
  pub masked : taken 0x0101 (0x00 ∷ []) [] (pos 0) two ≡ refused 15 (pos 0) two

-- ---- classes, and the base that stays moved
pub record Classes : Type 0 where
  -- 0 is delivered as its value
  pub normal : taken 9 (0x00 ∷ []) table (pos 0) two ≡ done 1 1 (pos 0) 0 (0x41 ∷ 7 ∷ [])
  -- 128 is read and skipped
  pub skipped : taken 9 (0x81 ∷ 0x00 ∷ []) table (pos 0) two ≡ done 1 2 (pos 0) 0 (0x41 ∷ 7 ∷ [])
  -- 129 moves the base down by 1: character 2 is looked up again at 1 and skipped, and character 6 then at 5
  pub down : taken 9 (0x82 ∷ 0x06 ∷ []) table (pos 0) two ≡ done 1 2 (negsuc 0) 0x0020 (0x42 ∷ 7 ∷ [])
  -- and by 256 where the value is 0
  pub far_down : taken 9 (0x03 ∷ []) (replicate 3 0 ++ (0x0043 ∷ replicate 255 0) ++ (0x8100 ∷ [])) (pos 256) two ≡ done 1 1 (pos 0) 0 (0x43 ∷ 7 ∷ [])
  -- 130 moves it up
  pub up : taken 9 (0x03 ∷ 0x03 ∷ []) (0 ∷ 0 ∷ 0 ∷ 0x8202 ∷ 0 ∷ 0x0044 ∷ []) (pos 0) two ≡ done 2 2 (pos 2) 0 (0x44 ∷ 0x44 ∷ [])
  pub far_up : taken 9 (0x00 ∷ []) (0x8200 ∷ (replicate 255 0 ++ (0x0045 ∷ []))) (pos 0) two ≡ done 1 1 (pos 256) 0 (0x45 ∷ 7 ∷ [])
  -- 132 ends the block: it was read, it isn't delivered, what follows isn't read
  pub ended : taken 9 (0x00 ∷ 0x84 ∷ 0x00 ∷ []) table (pos 0) three ≡ done 1 2 (pos 0) 0 (0x41 ∷ 7 ∷ 7 ∷ [])
  -- the base moves for an end of block too, and stays
  pub ended_moved : taken 9 (0x00 ∷ []) (0x8201 ∷ 0x8400 ∷ []) (pos 0) two ≡ done 0 1 (pos 1) 0 two
  -- 136 and 255 deliver with the status; 135 isn't listed, nor are 1, 127, 131 and 133
  pub first_parity : taken 9 (0x00 ∷ []) (0x8846 ∷ []) (pos 0) two ≡ done 1 1 (pos 0) 0x0020 (0x46 ∷ 7 ∷ [])
  pub last_parity : taken 9 (0x00 ∷ []) (0xFF47 ∷ []) (pos 0) two ≡ done 1 1 (pos 0) 0x0020 (0x47 ∷ 7 ∷ [])
  pub below_parity : taken 9 (0x00 ∷ []) (0x8748 ∷ []) (pos 0) two ≡ refused 18 (pos 0) two
  pub class_1 : taken 9 (0x00 ∷ []) (0x0141 ∷ []) (pos 0) two ≡ refused 18 (pos 0) two
  pub class_127 : taken 9 (0x00 ∷ []) (0x7F41 ∷ []) (pos 0) two ≡ refused 18 (pos 0) two
  pub class_131 : taken 9 (0x00 ∷ []) (0x8341 ∷ []) (pos 0) two ≡ refused 18 (pos 0) two
  pub class_133 : taken 9 (0x00 ∷ []) (0x8541 ∷ []) (pos 0) two ≡ refused 18 (pos 0) two
  -- a byte with wrong parity is looked up as 26, in mode 5 as in mode 9
  pub wrong_even : taken 9 (0x80 ∷ []) (replicate 26 0 ++ (0x8849 ∷ [])) (pos 0) two ≡ done 1 1 (pos 0) 0x0020 (0x49 ∷ 7 ∷ [])
  pub wrong_odd : taken 5 (0x03 ∷ []) (replicate 26 0 ++ (0x8849 ∷ [])) (pos 0) two ≡ done 1 1 (pos 0) 0x0020 (0x49 ∷ 7 ∷ [])

-- ---- lookups and indices, at their bounds
pub record Bounds : Type 0 where
  -- from character 9 down by 1: the eighth lookup is at 2, the ninth would be at 1
  pub eighth : taken 9 (0x09 ∷ []) (0 ∷ 0 ∷ 0x0041 ∷ replicate 7 0x8101) (pos 0) two ≡ done 1 1 (negsuc 6) 0 (0x41 ∷ 7 ∷ [])
  pub ninth : taken 9 (0x09 ∷ []) (0 ∷ 0x0041 ∷ replicate 8 0x8101) (pos 0) two ≡ refused 16 (pos 0) two
  -- an eighth lookup at -1 is outside; a ninth one at -1 isn't made
  pub eighth_outside : taken 9 (0x06 ∷ []) (replicate 7 0x8101) (pos 0) two ≡ refused 17 (pos 0) two
  pub ninth_outside : taken 9 (0x87 ∷ []) (replicate 8 0x8101) (pos 0) two ≡ refused 16 (pos 0) two
  -- the indices -1, 0, the last and the one behind it
  pub below : taken 9 (0x00 ∷ []) table (negsuc 0) two ≡ refused 17 (negsuc 0) two
  pub lowest : taken 9 (0x81 ∷ []) table (negsuc 0) two ≡ done 1 1 (negsuc 0) 0 (0x41 ∷ 7 ∷ [])
  pub last : taken 9 (0x05 ∷ []) table (pos 0) two ≡ done 1 1 (pos 0) 0x0020 (0x42 ∷ 7 ∷ [])
  pub behind : taken 9 (0x06 ∷ []) table (pos 0) two ≡ refused 17 (pos 0) two
  -- an index is a whole number and never wrapped: at the ends of 32 bits
  pub highest_base : taken 9 (0x00 ∷ []) table (pos 2147483647) two ≡ refused 17 (pos 2147483647) two
  pub lowest_base : taken 9 (0x00 ∷ []) table (negsuc 2147483647) two ≡ refused 17 (negsuc 2147483647) two
  -- a table has 65,536 words that count: 65,535 is its last index, and 65,536 is outside though there is a word
  pub last_word : taken 9 (0x00 ∷ []) (replicate 65537 0x0041) (pos 65535) two ≡ done 1 1 (pos 65535) 0 (0x41 ∷ 7 ∷ [])
  pub word_too_many : taken 9 (0x00 ∷ []) (replicate 65537 0x0041) (pos 65536) two ≡ refused 17 (pos 65536) two

-- ---- where an operation ends, and what a refusal leaves
pub record Endings : Type 0 where
  -- a full area ends it: what follows is neither read nor refused, not even where it would be skipped
  pub full : taken 1 (0x80 ∷ 0x03 ∷ []) [] (pos 0) (7 ∷ []) ≡ done 1 1 (pos 0) 0 (0x80 ∷ [])
  pub full_skips : taken 9 (0x00 ∷ 0x81 ∷ []) table (pos 0) (7 ∷ []) ≡ done 1 1 (pos 0) 0 (0x41 ∷ [])
  pub no_room : taken 9 (0x06 ∷ []) table (pos 0) [] ≡ done 0 0 (pos 0) 0 []
  -- used-up input ends it
  pub no_tape : taken 9 [] table (pos 3) two ≡ done 0 0 (pos 3) 0 two
  -- a refusal at the third character undoes the two before it: one stored, one that moved the base
  pub undone : taken 9 (0x00 ∷ 0x82 ∷ 0x00 ∷ []) table (pos 0) three ≡ refused 17 (pos 0) three
  -- the refusal met first counts: 18 at the first character, 17 at the second
  pub as_met : taken 9 (0x00 ∷ 0x81 ∷ []) (0x8341 ∷ []) (pos 0) two ≡ refused 18 (pos 0) two

pub modes : Modes
unfolding ones odd treated settled look_up character run taken
modes = record { binary = refl; odd_parity = refl; even_parity = refl; none = refl; four = refl; masked = refl }

pub classes : Classes
unfolding ones odd treated settled look_up character run taken
classes =
    record {
      normal = refl;
      skipped = refl;
      down = refl;
      far_down = refl;
      up = refl;
      far_up = refl;
      ended = refl;
      ended_moved = refl;
      first_parity = refl;
      last_parity = refl;
      below_parity = refl;
      class_1 = refl;
      class_127 = refl;
      class_131 = refl;
      class_133 = refl;
      wrong_even = refl;
      wrong_odd = refl;
    }

pub bounds : Bounds
unfolding ones odd treated settled look_up character run taken
bounds =
    record {
      eighth = refl;
      ninth = refl;
      eighth_outside = refl;
      ninth_outside = refl;
      below = refl;
      lowest = refl;
      last = refl;
      behind = refl;
      highest_base = refl;
      lowest_base = refl;
      last_word = refl;
      word_too_many = refl;
    }

pub endings : Endings
unfolding ones odd treated settled look_up character run taken
endings = record { full = refl; full_skips = refl; no_room = refl; no_tape = refl; undone = refl; as_met = refl }
