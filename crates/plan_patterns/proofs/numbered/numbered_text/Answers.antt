use Rattle.std.proofs.Common.{◌++◌, ap, rules, string_bytes, sym, ◌∙◌}
use Rattle.plan_patterns.specs.Numbered.{numbered_text}
use Rattle.plan_patterns.proofs.Texts.{next_braces, shorter, without_braces}
use Rattle.plan_patterns.proofs.numbered.numbered_text.Goals as goal

pub loop-before-smaller : goal.loop-before-smaller
loop-before-smaller c = shorter c.loop-before.rest.now c.in-Some.before.now c.in-Some.after.now c.in-Some.ensures.cases

pub loop-before-preserved : goal.loop-before-preserved
loop-before-preserved c =
    let number = c.args.number.now in
    let pushed = c.in_ok-push_str-2.ensures.bytes ∙ ap (λ t. t ++ number) c.in_ok-push_str.ensures.bytes in (
      search rules,
      ap (λ t. t ++ numbered_text number c.in-Some.after.now) pushed
          ∙ next_braces number (string_bytes c.loop-before.whole) c.loop-before.rest.now c.in-Some.before.now c.in-Some.after.now _ c.in-Some.ensures.cases c.loop-before.invariant.1,
    )

pub returns : goal.returns
returns c =
    let number = c.args.number.now in
    let last = without_braces number c.loop-before.rest.now c.in_default.ensures.cases in
    c.in_ok-push_str-3.ensures.bytes ∙ sym (ap (λ t. string_bytes c.loop-before.whole ++ t) last) ∙ c.loop-before.invariant.1
