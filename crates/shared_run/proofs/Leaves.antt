-- Passes leave one after the other.
use Rattle.std.proofs.Common.{List, [], ◌∷◌, ◌++◌, refl, map, sym, ap, ◌∙◌, arith}
use Rattle.std.proofs.lemmas.List.{length-append, map-append}
use Rattle.std.proofs.lemmas.List.Elements.{All-nil, All-cons, All-append, All-weaker}
use Rattle.zone_yard.specs.Passes.{Pass, Root}
use Rattle.zone_yard.specs.Boarding.{TakesBack}
use Rattle.zone_yard.proofs.Lists.{starts_itself, starts_on}
use Rattle.shared_run.specs.Boarding.{onto}
use Rattle.shared_run.specs.Leaving.{HasSeen, HaveLeft, entries_with}
use Rattle.shared_run.proofs.Lists.{onto_append}

pub none_left : (old : Root) → HaveLeft old [] old
none_left old = record { own = starts_itself old.seen; theirs = All-nil (HasSeen old); out = omega arith; done = refl; yard = refl }

pub one_left : (old new : Root) (pass : Pass) → TakesBack old pass new → HaveLeft old (pass ∷ []) new
one_left old new pass back = record {
  own = back.own;
  theirs = All-cons (HasSeen new) pass [] back.theirs (All-nil (HasSeen new));
  out = back.out;
  done = back.done;
  yard = back.yard;
}

pub then_left : (a b c : Root) (xs ys : List Pass) → HaveLeft a xs b → HaveLeft b ys c → HaveLeft a (xs ++ ys) c
then_left a b c xs ys one two = record {
  own = starts_on c.seen b.seen a.seen two.own one.own;
  theirs = All-append (HasSeen c) xs ys
      (All-weaker (HasSeen b) (HasSeen c) (λ p seen. starts_on c.seen b.seen p.seen two.own seen) xs one.theirs) two.theirs;
  out = let o = one.out in let t = two.out in let long = length-append xs ys in omega (arith, o, t, long);
  done =
      two.done ∙ ap (λ done. onto (map entries_with ys) done) one.done
      ∙ sym (onto_append (map entries_with xs) (map entries_with ys) a.done)
      ∙ ap (λ ds. onto ds a.done) (sym (map-append entries_with xs ys));
  yard = two.yard ∙ one.yard;
}

pub leaves_more : (a b c : Root) (xs : List Pass) (pass : Pass) → HaveLeft a xs b → TakesBack b pass c → HaveLeft a (xs ++ pass ∷ []) c
leaves_more a b c xs pass left back = then_left a b c xs (pass ∷ []) left (one_left b c pass back)
