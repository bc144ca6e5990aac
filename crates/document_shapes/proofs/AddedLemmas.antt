-- Tokens that are written one after another.
use Rattle.std.proofs.Common.{◌≡◌, ℕ, false, List, [], ◌∷◌, ◌++◌, map, Option, Some, None, Result, Ok, Err, refl, ap, ◌∙◌, append_assoc}
use Rattle.std.specs.Result.{IsOk}
use Rattle.std.proofs.lemmas.Bool.{false≢true}
use Rattle.json.specs.Print.{print}
use Rattle.json.specs.Token.{Token, begin_object, end_object, begin_array, end_array}
use Rattle.json.specs.Tree.{items_tokens, members_tokens}
use Rattle.json.specs.Written.{Written, Writes}
use Rattle.serde_json.specs.Data.{Data, Members}
use Rattle.serde_json.specs.View.{items_of}
use Rattle.serde_json.specs.Written.{items_outline, members_outline, compact_text}
use Rattle.serde_json.proofs.Texts.{print-outline}
use Rattle.std.specs.List.{flat_map}
use Rattle.document_shapes.specs.Added.{AddsTokens, tokens_of, given_tokens}
use Rattle.document_shapes.specs.Written.{list_data, given_member}
use Rattle.document_shapes.specs.declared.token_text.TokenText.{TokenText}

pub adds-more : (ts us : List Token) (a b c : TokenText) → AddsTokens ts a b → AddsTokens us b c → AddsTokens (ts ++ us) a c
adds-more ts us a b c first then_more = record {
  noted = λ fine. first.noted (then_more.noted fine);
  tokens = λ fine. then_more.tokens fine ∙ ap (λ l. l ++ us) (first.tokens (then_more.noted fine)) ∙ append_assoc a.writer.tokens ts us;
  before = then_more.before ∙ first.before;
}

-- a token was written, or it is noted that there was no memory for it
pub adds-token : {E : Type 0} (t : Token) (old new : TokenText) (mid : Written) (r : Result (Unit {0}) E) → Writes r old.writer mid t → new.writer ≡ mid
    → (new.is_out_of_memory ≡ false → old.is_out_of_memory ≡ false) → (new.is_out_of_memory ≡ false → IsOk r) → AddsTokens (t ∷ []) old new
adds-token t old new mid (Ok u) wrote same noted fine = record {
  noted = noted;
  tokens = λ _. ap (λ (w : Written). w.tokens) same ∙ wrote.ok;
  before = ap (λ (w : Written). w.before) same ∙ wrote.room.0;
}
adds-token t old new mid (Err e) wrote same noted fine = record {
  noted = noted;
  tokens = λ f. absurd (false≢true (fine f));
  before = ap (λ (w : Written). w.before) same ∙ wrote.room.0;
}

-- the items of a list, with their end
items-tokens : {X : Type 0} (put : X → Data) (xs : List X) → flat_map (λ x. tokens_of (put x)) xs ++ end_array ∷ [] ≡ items_tokens (items_outline (items_of (map put xs)))
items-tokens put [] = refl
items-tokens put (x ∷ xs) = append_assoc (tokens_of (put x)) _ _ ∙ ap (λ ts. tokens_of (put x) ++ ts) (items-tokens put xs)

pub list-tokens : {X : Type 0} (put : X → Data) (xs : List X) → (begin_array ∷ flat_map (λ x. tokens_of (put x)) xs) ++ end_array ∷ [] ≡ tokens_of (list_data put xs)
list-tokens put xs = ap (λ ts. begin_array ∷ ts) (items-tokens put xs)

-- the members from this one on
pub given-tokens : (name : List ℕ) (o : Option Data) (ms : Members) → given_tokens name o ++ members_tokens (members_outline ms) ≡ members_tokens (members_outline (given_member name o ms))
given-tokens name None ms = refl
given-tokens name (Some d) ms = refl

-- an object of seven members
module _ (t0 t1 t2 t3 t4 t5 t6 t7 t8 t9 : TokenText) (a b c d e f g : List Token) where
  pub adds-seven : AddsTokens (begin_object ∷ []) t0 t1 → AddsTokens a t1 t2 → AddsTokens b t2 t3 → AddsTokens c t3 t4 → AddsTokens d t4 t5 → AddsTokens e t5 t6 → AddsTokens f t6 t7 → AddsTokens g t7 t8
      → AddsTokens (end_object ∷ []) t8 t9 → AddsTokens (begin_object ∷ (a ++ (b ++ (c ++ (d ++ (e ++ (f ++ (g ++ end_object ∷ [])))))))) t0 t9
  adds-seven h0 ha hb hc hd he hf hg last =
      adds-more (begin_object ∷ []) _ t0 t1 t9 h0
      (adds-more a _ t1 t2 t9 ha (adds-more b _ t2 t3 t9 hb (adds-more c _ t3 t4 t9 hc (adds-more d _ t4 t5 t9 hd
      (adds-more e _ t5 t6 t9 he (adds-more f _ t6 t7 t9 hf (adds-more g (end_object ∷ []) t7 t8 t9 hg last)))))))

-- two pieces between two tokens
pub adds-two : (first last : Token) (t0 t1 t2 t3 t4 : TokenText) (a b : List Token) → AddsTokens (first ∷ []) t0 t1 → AddsTokens a t1 t2 → AddsTokens b t2 t3
    → AddsTokens (last ∷ []) t3 t4 → AddsTokens (first ∷ (a ++ (b ++ last ∷ []))) t0 t4
adds-two first last t0 t1 t2 t3 t4 a b h0 ha hb wrote =
    adds-more (first ∷ []) _ t0 t1 t4 h0 (adds-more a _ t1 t2 t4 ha (adds-more b (last ∷ []) t2 t3 t4 hb wrote))

-- what a new text is, where just the data were written
module _ (d : Data) (start end : TokenText) where
  pub printed-text : start.writer.before ≡ [] → start.writer.tokens ≡ [] → AddsTokens (tokens_of d) start end → end.is_out_of_memory ≡ false
      → end.writer.before ++ print end.writer.tokens ≡ compact_text d
  printed-text nothing none h fine =
      ap (λ b. b ++ print end.writer.tokens) (h.before ∙ nothing) ∙ ap print (h.tokens fine ∙ ap (λ ts. ts ++ tokens_of d) none) ∙ print-outline d
