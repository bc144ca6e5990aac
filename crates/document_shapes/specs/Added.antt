-- The tokens that are written for data.
use Rattle.std.specs.Prelude.{◌≡◌, ℕ, false, List, [], ◌∷◌, ◌++◌, Option, Some, None}
use Rattle.json.specs.Token.{Token, key}
use Rattle.json.specs.Tree.{json_tokens}
use Rattle.serde_json.specs.Data.{Data}
use Rattle.serde_json.specs.Written.{outline}
use Rattle.document_shapes.specs.declared.token_text.TokenText.{TokenText}

abbrev pub tokens_of : Data → List Token
tokens_of d = json_tokens (outline d)

-- a member of an object
abbrev pub member_tokens : List ℕ → Data → List Token
member_tokens name d = key name ∷ tokens_of d

-- a member, where there is one
abbrev pub given_tokens : List ℕ → Option Data → List Token
given_tokens name None = []
given_tokens name (Some d) = member_tokens name d

-- The text has these tokens more, unless there was no memory for one of them or for one before, and nothing else has changed.
pub record AddsTokens (ts : List Token) (old new : TokenText) : Type 0 where
  pub noted : new.is_out_of_memory ≡ false → old.is_out_of_memory ≡ false
  pub tokens : new.is_out_of_memory ≡ false → new.writer.tokens ≡ old.writer.tokens ++ ts
  pub before : new.writer.before ≡ old.writer.before
