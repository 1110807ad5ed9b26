-- The terms of both sums: a word more, a byte more, and none.
use Rattle.std.specs.Prelude.{◌≡◌, List, ℕ, ◌+◌, ◌*◌, ◌%◌, ◌≤◌, ◌<◌, length, drop, get_or}
use native.Mathlib.Omega.{arith}
use Rattle.laws.proofs.Checksums.{checksum-word, checksum-end, byte_sum-byte, byte_sum-end}
use Rattle.model.specs.Bytes.{field}
use Rattle.model.specs.Checksum.{checksum_from, byte_sum_from}

pub word-next : (a b i : ℕ) (s : List ℕ) → i + 2 ≤ length s
    → checksum_from a b (drop i s) ≡ checksum_from ((a + field 2 i s) % 65535) ((b + (a + field 2 i s) % 65535) % 65535) (drop (i + 2) s)
word-next a b i s h = checksum-word a b i s (omega arith)

pub word-end : (a b i : ℕ) (s : List ℕ) → length s < i + 2 → checksum_from a b (drop i s) ≡ b * 65536 + a
word-end a b i s h = checksum-end a b i s (omega arith)

pub byte-next : (a b i : ℕ) (s : List ℕ) → i + 1 ≤ length s
    → byte_sum_from a b (drop i s) ≡ byte_sum_from ((a + get_or s i 0) % 65535) ((b + (a + get_or s i 0) % 65535) % 65535) (drop (i + 1) s)
byte-next a b i s h = byte_sum-byte a b i s (omega arith)

pub byte-end : (a b i : ℕ) (s : List ℕ) → length s < i + 1 → byte_sum_from a b (drop i s) ≡ b * 65536 + a
byte-end a b i s h = byte_sum-end a b i s (omega arith)
