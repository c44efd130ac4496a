-- `column::step::is_wide` meets its contract: below 8, the difference is that of the two places, or `from` lies near 2^64.
use Rattle.std.proofs.Common.{◌≡◌, ◌-◌, leb, ap, arith, leb-false}
use Rattle.column.proofs.step.is_wide.Goals as goal

pub returns : goal.returns
returns c =
    let w = c.wrapping_sub_usize in
    let a = c.args in
    ((λ l. let e : w.result ≡ a.to - a.from = omega (arith, l, w.ensures) in ap (leb 8) e), λ h. omega (arith, leb-false 8 w.result h))
