-- an entry of what is unsynced is added
use Rattle.std.specs.Prelude.{ℕ, ◌≡◌, List, [], ◌∷◌, ◌++◌, length, take, drop}
use Rattle.disk_model.specs.declared.history.Entry.{Entry}
use Rattle.disk_model.specs.declared.history.Entry.TheVariants.{Written}
use Rattle.disk_model.specs.declared.history.Write.{Write}
use Rattle.disk_model.specs.History.{patched}

-- the bytes are put at `offset`, and what stood there is noted
pub record IsPut (entries : List Entry) (content : List ℕ) (offset : ℕ) (bytes : List ℕ) (entries_after : List Entry) (content_after : List ℕ) : Type 0 where
  pub write : Write
  pub offset_is : write.offset ≡ offset
  pub before_is : write.before.items ≡ take (length bytes) (drop offset content)
  pub entries_are : entries_after ≡ entries ++ Written write ∷ []
  pub content_is : content_after ≡ patched content offset bytes
