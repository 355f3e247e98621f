-- The lines of document 01 that are marked (p), and the figures 3-6 to 3-8 of 000, as one table: each line's answer by the definitions, and the
-- answer that the papers give.
-- Assumes nothing.
use mathlib.Core.Path.{◌≡◌, refl}
use Prim.Native.Nat.{ℕ, zero, suc, ◌^◌, ◌/◌, ◌%◌}
use mathlib.Core.Bool.{Bool, false}
use mathlib.Core.List.{List, [], ◌∷◌, ◌++◌, map}
use lib.IntN.{ℤ, negsuc}
use lib.ListN.{length, replicate}
use Rattle.fdoca.specs.Basics.{Result, refuse, ok, ◌>>=◌}
use Rattle.fdoca.specs.Walk.{item_length}
use Rattle.fdoca.specs.Check.{check}
use Rattle.fdoca.specs.Unfolding.{unfolded}
use Rattle.fdoca.specs.Dump as D
use Rattle.fdoca.specs.Calls.{list, item_at, value_of, whole_number}
use Rattle.fdoca.proofs.Everything.{everything}

-- a byte string of n bytes, written as one hexadecimal number
unfoldable pub bytes : ℕ → ℕ → List ℕ
bytes zero x = []
bytes (suc n) x = x / 256 ^ n % 256 ∷ bytes n x

-- S of the document: the 12-byte SDA of id B1, with type code, mode and field length
unfoldable pub S : ℕ → ℕ → ℕ → List ℕ
unfolding bytes
S code mode F = bytes 3 0x0C70B1 ++ (code ∷ bytes 5 0) ++ (mode ∷ bytes 2 F)

-- an answer: the check's count, the list, an item's length with its value, a whole number, or a block's length and how many items it has
pub data Answer : Type 0 where
  count : Result ℕ → Answer
  entries : Result (List ℕ) → Answer
  value : Result (ℕ × List ℕ) → Answer
  whole : Result (Bool × ℤ) → Answer
  size : Result (ℕ × ℕ) → Answer

unfoldable pub counts : List ℕ → Answer
counts d = count (check d)

unfoldable pub lists : List ℕ → List ℕ → Answer
lists d s = entries (list d s (replicate 6 0))

unfoldable pub item0 : List ℕ → List ℕ → Answer
item0 d s = value (item_at d s 0 >>= (λ i. ok (item_length i, value_of s i)))

unfoldable pub number0 : List ℕ → List ℕ → Answer
number0 d s = whole (whole_number d s 0)

-- the list call on n zero bytes: the unfolding's length and the block's
unfoldable pub zeros : List ℕ → ℕ → Answer
zeros d n = size (list d (replicate n 0) (replicate 8194 0) >>= (λ l. ok (length (unfolded d), n)))

unfoldable pub dump : List ℕ
unfolding bytes
dump = bytes 18 0x0C70B181_0000000000000003_0671A1B10002

figure_3_6 : List ℕ
unfolding bytes
figure_3_6 =
    bytes 12 0x0C70B101_0000000000000003
    ++ bytes 14 0x0E70B201_0000000000000001_0009
    ++ bytes 12 0x0C71A1_B10004_B20401_B20A02
    ++ bytes 6 0x0671A2_A10002

figure_3_7 : List ℕ
unfolding bytes
figure_3_7 = bytes 14 0x0E70B101_0000000000000004_0007 ++ bytes 12 0x0C71A1_B10801_B10501_B10703

figure_3_8 : List ℕ
unfolding bytes
figure_3_8 =
    bytes 14 0x0E70B101_0000000000000001_0003
    ++ bytes 9 0x0971A1_B10101_B10001
    ++ bytes 9 0x0971A2_B10001_B10401
    ++ bytes 9 0x0971A3_B10201_B10001
    ++ bytes 6 0x0671A4_B10002
    ++ bytes 12 0x0C71A5_A10001_A20001_A30001
    ++ bytes 6 0x0671A6_A40003
    ++ bytes 9 0x0971A7_A50001_A60001

pub table : List (Answer × Answer)
unfolding bytes S dump figure_3_6 figure_3_7 figure_3_8
table =
    (counts [], count (refuse 11 0))
    ∷ (lists dump (bytes 5 0x0061626380), entries (ok (2 ∷ 5 ∷ 0 ∷ 4 ∷ 177 ∷ 177 ∷ [])))
    ∷ (lists dump (bytes 4 0x00616263), entries (refuse 13 4))
    ∷ (lists dump (bytes 6 0x006162638000), entries (refuse 16 5))
    ∷ (counts (bytes 6 0x0671A1A10001), count (refuse 8 0))
    ∷ (counts (S 0x01 0 0 ++ bytes 12 0x0671A1B10000_0671A2B10001), count (refuse 9 12))
    ∷ (counts (S 0x01 0 0 ++ bytes 6 0x0671A1B10000), count (refuse 22 12))
    ∷ (counts (S 0x01 0 1 ++ bytes 6 0x0671A1B10000), count (ok 0))
    ∷ (lists (S 0x01 0 1 ++ bytes 6 0x0671A1B10000) (bytes 2 0x6162), entries (ok (2 ∷ 2 ∷ 0 ∷ 1 ∷ 177 ∷ 177 ∷ [])))
    ∷ (lists (S 0x01 0 1 ++ bytes 6 0x0671A1B10000) [], entries (ok (replicate 6 0)))
    ∷ (lists (S 0x01 0 1 ++ bytes 6 0x0671A1B10000) (bytes 3 0x616263), entries (refuse 12 0))
    ∷ (lists (S 0x01 0 2 ++ bytes 6 0x0671A1B10000) (bytes 7 0x61626364656667), entries (refuse 13 6))
    ∷ (lists (S 0x01 0 0) [], entries (ok (1 ∷ 0 ∷ 0 ∷ 177 ∷ 0 ∷ 0 ∷ [])))
    ∷ (item0 (S 0x02 1 4) (bytes 4 0x00024142), value (ok (4, bytes 2 0x4142)))
    ∷ (item0 (S 0x02 0 4) (bytes 4 0x00024142), value (refuse 13 0))
    ∷ (item0 (S 0x02 0 4) (bytes 6 0x000241420000), value (ok (6, bytes 2 0x4142)))
    ∷ (item0 (S 0x02 0 4) (bytes 2 0x0005), value (refuse 14 0))
    ∷ (item0 (S 0x02 1 4) (bytes 2 0x0005), value (refuse 14 0))
    ∷ (item0 (S 0x02 0 0) (bytes 2 0xFFFF), value (refuse 14 0))
    ∷ (item0 (S 0x02 1 0) (bytes 2 0xFFFF), value (refuse 14 0))
    ∷ (item0 (S 0x03 1 2) (bytes 2 0x4100), value (ok (2, bytes 1 0x41)))
    ∷ (item0 (S 0x03 1 2) (bytes 3 0x414243), value (refuse 15 0))
    ∷ (item0 (S 0x03 1 2) (bytes 2 0x4142), value (refuse 13 0))
    ∷ (number0 (S 0x23 0 2) (bytes 2 0xFFFE), whole (ok (false, negsuc 1)))
    ∷ (number0 (S 0x23 0 2) (bytes 2 0x8000), whole (ok (false, negsuc 32767)))
    ∷ (number0 (S 0x24 0 2) (bytes 2 0xFEFF), whole (ok (false, negsuc 1)))
    ∷ (counts (S 0x01 0 1 ++ bytes 12 0x0671A1B10040_0671A2A10040), count (ok 4096))
    ∷ (counts (S 0x01 0 1 ++ bytes 12 0x0671A1B10040_0671A2A10041), count (refuse 10 18))
    ∷ (zeros figure_3_6 72, size (ok (56, 72)))
    ∷ (zeros figure_3_7 136, size (ok (34, 136)))
    ∷ (zeros figure_3_8 34, size (ok (34, 34)))
    ∷ []

pub as_the_papers_say : map (λ l. l.0) table ≡ map (λ l. l.1) table
unfolding table counts lists item0 number0 zeros everything
as_the_papers_say = refl

-- The dump of the document's file of 31 bytes: its three lines.
pub dump_as_the_paper_says : D.dump (bytes 8 0x00000012_00000005 ++ dump ++ bytes 5 0x0061626380)
    ≡ bytes 16 0x6974656D7320322062797465732035_0A ++ bytes 10 0x302030203132392033_0A ++ bytes 13 0x31203420313239206E756C6C_0A
unfolding everything dump bytes
dump_as_the_paper_says = refl
