-- Writing a memory as a text: document 02, request One.
use Rattle.std.specs.Prelude.{◌≡◌, ℕ, zero, suc, ◌+◌, ◌-◌, ◌/◌, ◌%◌, if◌then◌else◌, List, [], ◌∷◌, ◌++◌, length, take, drop, ◌==◌, nat_lt, Result, IfOk}
use Rattle.memory.specs.Lengths.{first, length_tests, test}
use Rattle.text.specs.Text.{ascii, hex_in, line_feed}
use Rattle.text.specs.declared.digits.Case.TheVariants.{Upper}
use Rattle.srecord.specs.declared.Refusal.{Refusal}
use Rattle.srecord.specs.Load.{number_of, sum}

-- Bytes as pairs of hexadecimal digits, "written in upper" case.
unfoldable pub pairs : List ℕ → List ℕ
pairs [] = []
pairs (byte ∷ bytes) = hex_in Upper 2 byte ++ pairs bytes

-- The last k bytes of a number, the most significant first.
abbrev pub bytes_in : ℕ → ℕ → List ℕ
bytes_in zero n = []
bytes_in (suc k) n = bytes_in k (n / 256) ++ (n % 256 ∷ [])

-- The byte that brings the low byte of the sum to H'FF.
abbrev pub check_byte : List ℕ → ℕ
check_byte bytes = 0xff - sum bytes % 256

-- Count, address of four bytes, and data.
abbrev pub counted : ℕ → List ℕ → List ℕ
counted address bytes = (4 + length bytes + 1) ∷ (bytes_in 4 address ++ bytes)

unfoldable pub line_of : List ℕ → ℕ → List ℕ → List ℕ
line_of start address bytes =
    let all = counted address bytes in
    start ++ pairs (all ++ (check_byte all ∷ [])) ++ line_feed

-- "S3 lines of 16 bytes (the last may be shorter)": n of them, from an address on.
unfoldable pub s3_lines : ℕ → ℕ → List ℕ → List ℕ
s3_lines zero address memory = []
s3_lines (suc n) address memory = line_of (ascii "S3") address (take 16 memory) ++ s3_lines n (address + 16) (drop 16 memory)

abbrev pub memory_lines : List ℕ → List ℕ
memory_lines memory = s3_lines ((length memory + 15) / 16) 0 memory

-- "and a closing S7 with address 0"
unfoldable pub exported : List ℕ → List ℕ
exported memory = memory_lines memory ++ line_of (ascii "S7") 0 []

-- "export, 1, 2, then 16 buffer too short"
abbrev pub refused_export : List ℕ → List ℕ → ℕ
refused_export memory buffer =
    first (length_tests (length memory) ++ (test 16 (nat_lt (length buffer) (length (exported memory))) ∷ []))

-- What `export` promises: the paper's number, the text's length, and every byte of the buffer: "nothing written" where it is refused,
-- "buffer bytes beyond the text stay".
pub record Exports (memory buffer : List ℕ) (answer : Result ℕ Refusal) (after : List ℕ) : Type 0 where
  pub refuses : number_of answer ≡ refused_export memory buffer
  pub counts : IfOk answer (λ n. n ≡ length (exported memory))
  pub leaves : after ≡ (if refused_export memory buffer == 0 then exported memory ++ drop (length (exported memory)) buffer else buffer)
