use Rattle.std.proofs.Common.{arith, ◌≡◌, ◌∙◌}
use Rattle.laws.specs.Decimal.{decimal_of}
use Rattle.lines.specs.Text.{number_text}
use Rattle.lines.proofs.Putting.{puts_then, puts_one}
use Rattle.lines.proofs.Decimals.{decimal_text}
use Rattle.lines.proofs.put_number.Goals as goal

pub returns : goal.returns
unfolding number_text
returns c =
    let p = c.put_text-end in
    let t : c.as_bytes.result.now ≡ decimal_of c.args.n = decimal_text c.args.n (omega arith) (c.as_bytes.ensures.value ∙ c.format.ensures.text) in
    rw (← t) (puts_then p.ensures (puts_one p.new.out p.result c.args.mark))
