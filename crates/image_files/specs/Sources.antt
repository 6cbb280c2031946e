-- What a source of bytes gave: events, which only its functions can prove. The crate has a private type for `Seal`, whose value no other
-- crate can name. So elsewhere nothing proves such an event, and nothing refutes it. That the bytes are right is a premise.
use Rattle.std.specs.Prelude.{◌≡◌, ℕ, ◌+◌, ◌*◌, ◌<◌, List, length, slice_index}

-- A read gave these bytes, of the blocks from the first on.
pub data Gave {S : Type 0} (Seal : Type 0) (source : S) (first : ℕ) (bytes : List ℕ) : Type 0 where
  Given : Seal → Gave Seal source first bytes

-- These blocks were passed over.
pub data Passed {S : Type 0} (Seal : Type 0) (source : S) (first count : ℕ) : Type 0 where
  PassedOver : Seal → Passed Seal source first count

-- The bytes of a file or a stream. No proof looks into this definition: all that is known of them is what the premise says.
pub bytes_of : {S : Type 0} → S → ℕ → ℕ
bytes_of source place = 0

-- What was read is what the file or the stream has, and what was passed over is zero there. The system's calls promise nothing of their
-- bytes, so nothing can prove it: contracts have it as a premise.
pub record ReadsAsIs {S : Type 0} (Seal : Type 0) (source : S) : Type 0 where
  pub gave : (first : ℕ) (bytes : List ℕ) → Gave Seal source first bytes → (k : ℕ) → k < length bytes → slice_index bytes k ≡ bytes_of source (4096 * first + k)
  pub passed : (first count : ℕ) → Passed Seal source first count → (k : ℕ) → k < 4096 * count → bytes_of source (4096 * first + k) ≡ 0
