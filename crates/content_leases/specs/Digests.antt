-- The digests of contents: SHA-256 (FIPS 180-4), written in lower-case hexadecimal.
use Rattle.std.specs.Prelude.{ℕ, List, ◌++◌, codes}
use Rattle.sha2.specs.Sha256.{sha256}
use Rattle.hex.specs.Hex.{encode_lower}

abbrev pub digest_of : List ℕ → List ℕ
digest_of bytes = codes "sha256:" ++ encode_lower (sha256 bytes)
