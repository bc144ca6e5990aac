-- The name of a document.
use Rattle.std.specs.Prelude.{ℕ, List}
use Rattle.hex.specs.Hex.{encode_lower}
use Rattle.sha2.specs.Sha256.{sha256}

-- the SHA-256 hash of bytes, as 64 digits
abbrev pub hash_text : List ℕ → List ℕ
hash_text bytes = encode_lower (sha256 bytes)
