-- What a parse of the command comes to.
use Rattle.std.proofs.Common.{◌≡◌, inl, inr, List, [], ◌∷◌, true, Option, Some, None, Result, refl, sym, ap, ap₂, ◌∙◌, subst}
use Rattle.std.specs.Prelude.{option_and_then, IfOk, ok_or, Err}
use Rattle.clap.specs.Words.{Text, app_of, fault_of, subcommand_of, subcommand_rows_of, is_simple, is_simple_and_free, Kinds, IsAmong, HasKind, HasMatchesOf, kind_of}
use Rattle.clap.proofs.OnLiterals.{clap_on_literals}
use Rattle.clap.specs.declared.Error.{Error}
use Rattle.clap.specs.declared.ArgMatches.{ArgMatches}
use Rattle.clap.specs.declared.error.ErrorKind.{ErrorKind}
use Rattle.clap.specs.declared.error.ErrorKind.TheVariants.{OutOfMemory}
use Rattle.clap.specs.declared.Command.{Command}
use Rattle.ats_words.specs.Words.{leaf, ats, order_of, unless_faulty, words}

-- clap says exactly when such a command is refused
pub ats_is_free : is_simple_and_free ats ≡ true
unfolding clap_on_literals leaf
ats_is_free = refl

-- clap says exactly what is found in such a command's words
pub ats_is_simple : is_simple ats ≡ true
unfolding clap_on_literals leaf
ats_is_simple = refl

-- words that a parse takes ask for what their subcommand does
pub words-taken : (c : Command) (ws : List Text) (m : ArgMatches) → app_of c ≡ ats → HasMatchesOf (app_of c) ws m → fault_of (app_of c) ws ≡ [] → words ws ≡ option_and_then order_of (subcommand_rows_of m)
unfolding words
words-taken c ws m is matches none =
    let same : subcommand_of ats ws ≡ subcommand_rows_of m = ap (λ app. subcommand_of app ws) (sym is) ∙ sym (matches (ap is_simple is ∙ ats_is_simple)).1 in
    ap₂ (λ k s. unless_faulty k (option_and_then order_of s)) (ap (λ app. fault_of app ws) (sym is) ∙ none) same

faulty : {A : Type 0} (k : ErrorKind) (kinds : Kinds) (found : Option A) → IsAmong k kinds → unless_faulty kinds found ≡ None
faulty k [] found h = absurd h
faulty k (x ∷ xs) found h = refl

-- words that a parse refuses for another cause than memory ask for nothing
pub words-refused : (c : Command) (ws : List Text) (e : Error) → app_of c ≡ ats → HasKind (fault_of (app_of c) ws) e → (kind_of e ≡ OutOfMemory → ⊥) → words ws ≡ None
unfolding words
words-refused c ws e is kind other = elim kind [
  | inl memory ↦ absurd (other memory)
  | inr among ↦ faulty (kind_of e) _ _ (subst (λ app. IsAmong (kind_of e) (fault_of app ws)) is among)
]

pub some_of_ok : {A E : Type 0} (o w : Option A) (e : E) (r : Result A E) → r ≡ ok_or o e → w ≡ o → IfOk r (λ x. w ≡ Some x)
some_of_ok None w e r is same = subst (λ q. IfOk q (λ x. w ≡ Some x)) (sym is) tt
some_of_ok (Some x) w e r is same = subst (λ q. IfOk q (λ y. w ≡ Some y)) (sym is) same

pub none_of_err : {A E : Type 0} (o w : Option A) (e f : E) (r : Result A E) → r ≡ ok_or o e → w ≡ o → r ≡ Err f → w ≡ None
none_of_err None w e f r is same err = same
none_of_err (Some x) w e f r is same err = cc
