-- A line is its parts one behind the other, and there is room for each: the parts that are on the page and the one to come are no longer than the line.
use Rattle.std.proofs.Common.{◌≡◌, ℕ, ℤ, ◌+◌, ◌^◌, ◌<◌, ap, length, lit<, w64, arith}
use Rattle.std.specs.Fmt.{decimal as std·decimal}
use Rattle.std.proofs.Math.ListN.{length-append}
use Rattle.std.proofs.lemmas.Grind.{common_steps}
use Rattle.std.proofs.lemmas.Str.{encode_ascii}
use mir.ValLaws.{to_z-of_z}
use Rattle.book.specs.Lines.{line_of, signed}
use Rattle.book.proofs.Decimal.{decimal_is, line_is}
use Rattle.book.proofs.Lengths.{length_line}
use Rattle.book.proofs.text.line.Goals as goal

-- in the library's digits, which are put on the page
long_as_written : (number refusal : ℕ) (available : ℤ) → number < 2 ^ 64 → refusal < 2 ^ 8
    → length (line_of number refusal available) ≡ length (std·decimal number) + length (std·decimal refusal) + length (signed available) + 3
long_as_written number refusal available n r = let long = length_line number refusal available in rw (decimal_is number n, decimal_is refusal (omega arith)) at long

pub push_str-requires : goal.push_str-requires
push_str-requires c =
    let long = long_as_written c.args.number c.args.refusal c.args.available c.ranges.number.fits c.ranges.refusal.fits in
    (lit< tt, omega (arith, ap length c.format.ensures.text))

pub push-requires : goal.push-requires
push-requires c =
    let long = long_as_written c.args.number c.args.refusal c.args.available c.ranges.number.fits c.ranges.refusal.fits in
    (lit< tt, omega (arith, ap length (encode_ascii 32 (lit< tt)), ap length c.format.ensures.text))

pub push_str-requires-2 : goal.push_str-requires-2
push_str-requires-2 c =
    let long = long_as_written c.args.number c.args.refusal c.args.available c.ranges.number.fits c.ranges.refusal.fits in
    (lit< tt, omega (arith, length-append {A = ℕ}, ap length (c.push.ensures.ascii (lit< tt)), ap length c.format.ensures.text, ap length c.format-2.ensures.text))

pub push-requires-2 : goal.push-requires-2
push-requires-2 c =
    let long = long_as_written c.args.number c.args.refusal c.args.available c.ranges.number.fits c.ranges.refusal.fits in
    (lit< tt, omega (arith, length-append {A = ℕ}, ap length (encode_ascii 32 (lit< tt)), ap length (c.push.ensures.ascii (lit< tt)), ap length c.format.ensures.text, ap length c.format-2.ensures.text))

pub signed-requires : goal.signed-requires
signed-requires c =
    let long = long_as_written c.args.number c.args.refusal c.args.available c.ranges.number.fits c.ranges.refusal.fits in
    rw (to_z-of_z w64 _ c.ranges.available)
    (omega (arith, length-append {A = ℕ}, ap length (c.push.ensures.ascii (lit< tt)), ap length (c.push-2.ensures.ascii (lit< tt)), ap length c.format.ensures.text, ap length c.format-2.ensures.text))

pub push-requires-3 : goal.push-requires-3
push-requires-3 c =
    let long = long_as_written c.args.number c.args.refusal c.args.available c.ranges.number.fits c.ranges.refusal.fits in
    (lit< tt, omega (arith, length-append {A = ℕ}, ap length (encode_ascii 10 (lit< tt)), ap length (c.push.ensures.ascii (lit< tt)), ap length (c.push-2.ensures.ascii (lit< tt)), ap length c.format.ensures.text, ap length c.format-2.ensures.text, ap length (rw (to_z-of_z w64 _ c.ranges.available) at c.signed.ensures)))

pub returns : goal.returns
returns c =
    let sum = rw (to_z-of_z w64 _ c.ranges.available) at c.signed.ensures in
    rw (line_is _ _ c.args.available c.ranges.number.fits c.ranges.refusal.fits) (grind (arith, common_steps))
