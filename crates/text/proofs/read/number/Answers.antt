use Rattle.std.proofs.Common.{sym, refl, ap, ◌∙◌, drop, ◌+◌, arith, rules}
use Rattle.text.specs.Number.{digits_of}
use Rattle.text.proofs.Digits.{number_some, number_none, digits_other, digits_past, digits_more, digits_end}
use Rattle.text.proofs.read.number.Goals as goal

pub returns-then-is_empty : goal.returns-then-is_empty
returns-then-is_empty c = sym (number_none _ (search rules))

pub loop-b-init : goal.loop-b-init
loop-b-init c = number_some _ (search rules)

pub returns-then-not-is_ascii_digit : goal.returns-then-not-is_ascii_digit
returns-then-not-is_ascii_digit c =
    let l = c.loop-b in
    sym (l.invariant ∙ digits_other l.value _ l.b-index _ c.loop-b-test.true refl (sym c.is_ascii_digit.ensures.value ∙ c.if-not-is_ascii_digit.true))

pub returns-in_err-checked_mul : goal.returns-in_err-checked_mul
returns-in_err-checked_mul c =
    let l = c.loop-b in let d = sym c.is_ascii_digit.ensures.value ∙ c.if-not-is_ascii_digit.false in
    c.from_residual.ensures
    ∙ sym (l.invariant ∙ digits_past l.value _ l.b-index _ c.loop-b-test.true refl d (omega (arith, c.in_err-checked_mul.ensures)))

pub returns-in_err-value : goal.returns-in_err-value
returns-in_err-value c =
    let l = c.loop-b in let d = sym c.is_ascii_digit.ensures.value ∙ c.if-not-is_ascii_digit.false in
    c.from_residual-in_err-value.ensures
    ∙ sym (l.invariant ∙ digits_past l.value _ l.b-index _ c.loop-b-test.true refl d (omega (arith, c.in_ok-checked_mul.ensures, c.in_err-value.ensures)))

pub loop-b-preserved : goal.loop-b-preserved
loop-b-preserved c =
    let l = c.loop-b in let d = sym c.is_ascii_digit.ensures.value ∙ c.if-not-is_ascii_digit.false in
    let e = c.in_ok-value.ensures in let m = c.in_ok-checked_mul.ensures in
    l.invariant
    ∙ digits_more l.value _ l.b-index _ c.loop-b-test.true refl d (omega (arith, m, e))
    ∙ ap (λ v. digits_of v (drop (l.b-index + 1) c.args.s.now)) (omega (arith, m, e))

pub returns : goal.returns
returns c = let l = c.loop-b in sym (l.invariant ∙ digits_end l.value _ l.b-index (omega arith))
