-- What a function that writes into a text has done to it.
use Rattle.std.specs.Prelude.{ℕ, ◌+◌, ◌≤◌, ◌≡◌, List, length}
use Rattle.std.proofs.lemmas.List.Edits.{sets}
use Rattle.fdoca.specs.Basics.{Result}
use Rattle.fdoca.specs.Walk.{Note}
use Rattle.fdoca.specs.Dump.{text_of}
use Rattle.listing.specs.declared.Text.{Text}

-- n bytes more fit.
abbrev pub HasRoom : Text → ℕ → Type 0
HasRoom t n = t.len + n ≤ length t.bytes.now

-- Nothing is written yet, and each text of a file fits.
abbrev pub IsFresh : Text → Type 0
IsFresh t = (t.len ≡ 0) × (90112 ≤ length t.bytes.now)

-- The bytes bs were put behind those that were written in t, and no others: it is then t'.
pub record Put (t t' : Text) (bs : List ℕ) : Type 0 where
  pub same_reference : t'.bytes.ghost_name ≡ t.bytes.ghost_name
  pub same_length : length t'.bytes.now ≡ length t.bytes.now
  pub text : t'.bytes.now ≡ sets t.bytes.now t.len bs
  pub place : t'.len ≡ t.len + length bs

-- The text of a block, by what the walk notes of its `size` bytes of data, was put.
pub record Told (t t' : Text) (size : ℕ) (x : Result (List Note)) : Type 0 where
  pub put : Put t t' (text_of size x)
  pub fits : t'.len ≤ 90112
