use Rattle.std.proofs.Common.{length, ◌≡◌, ◌∙◌, ◌++◌, ◌∷◌, [], List, ℕ, map, ap, sym, lit<}
use Rattle.std.specs.Prelude.{decimal, Some, None}
use Rattle.std.specs.Borrow.{Bor}
use Rattle.std.specs.List.{join_with_byte}
use Rattle.std.proofs.lemmas.List.{map_push}
use Rattle.std.proofs.lemmas.List.Splits.{join_with_byte-slice_split}
use Rattle.std.proofs.lemmas.Iterator.Splits.{YieldsList-from_str_split}
use Rattle.std.proofs.lemmas.Iterator.Consumers.{YieldsList-end, YieldsList-turn}
use Rattle.decimal_number.specs.Decimal.{number_of}
use Rattle.decimal_number.proofs.Numbers.{number_takes}
use Rattle.refusal_sentences.proofs.Commas.{not_places}
use Rattle.refusal_sentences.proofs.places.places_of.Goals as goal

pub returns-clause-read : goal.returns-clause-read
returns-clause-read c =
    let all = YieldsList-end (YieldsList-from_str_split 44 c.args.words.now (lit< tt) (cc) (cc) (cc)) c.loop-word.yielded _ c.loop-word.yielded_by _ _ c.in-None.is c.next.ensures.steps in
    sym (join_with_byte-slice_split 44 c.args.words.now) ∙ ap (join_with_byte 44) (sym all.0 ∙ c.loop-word.invariant)

pub returns-in-None-number_of-clause-none : goal.returns-in-None-number_of-clause-none
returns-in-None-number_of-clause-none c p are text =
    let word = c.in-Some.word in
    let turn = YieldsList-turn (YieldsList-from_str_split 44 c.args.words.now (lit< tt) (cc) (cc) (cc)) c.loop-word.yielded _ c.loop-word.yielded_by _ _ word c.in-Some.is c.next.ensures.steps in
    let none : number_of word.now ≡ None = cc in
    not_places c.args.words.now word.now (length c.loop-word.yielded) p turn.0 turn.1 none are text

pub loop-word-preserved : goal.loop-word-preserved
loop-word-preserved c =
    let word = c.in-Some.word in
    let place = c.in-Some-number_of.place in
    let is : number_of word.now ≡ Some place = cc in
    let text : word.now ≡ decimal place = (number_takes word.now place is).text in
    let words = map_push (λ (x : Bor (List ℕ)). x.now) c.loop-word.yielded word in
    let texts = map_push decimal c.loop-word.places.items place in
    let more : map (λ (x : Bor (List ℕ)). x.now) c.loop-word.yielded ++ word.now ∷ [] ≡ map decimal c.loop-word.places.items ++ decimal place ∷ [] =
    ap (λ y. map (λ (x : Bor (List ℕ)). x.now) c.loop-word.yielded ++ y ∷ []) text ∙ ap (λ xs. xs ++ decimal place ∷ []) c.loop-word.invariant in
    words ∙ more ∙ sym texts ∙ ap (map decimal) (sym {A = List ℕ} (c.in_ok-push-in-Some-number_of.ensures.items))
