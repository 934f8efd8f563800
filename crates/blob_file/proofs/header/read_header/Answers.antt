use Rattle.blob_file.proofs.Lemmas.{rules, ◌≡◌, drop, Some, Err, inr, refl, tree_of, bytes_to_line_end, common_steps, arith, no_second, no_view, other_size, header_found, refused_on}
use Rattle.blob_file.specs.declared.fault.FileFault.TheVariants as fault
use Rattle.blob_file.proofs.header.read_header.Goals as goal

pub returns-in_default-cut_line-clause-refused : goal.returns-in_default-cut_line-clause-refused
returns-in_default-cut_line-clause-refused c =
    let one : bytes_to_line_end (drop 4 c.args.bytes.now) ≡ Some (c.in-Some.first.now, c.in-Some.rest.now) = rw c.split_at.ensures.back at c.in-Some.ensures in
    inr (refl, no_second c.args.bytes.now c.in-Some.first.now c.in-Some.rest.now one c.in_default-cut_line.ensures)

pub returns-in_err-shown-clause-refused : goal.returns-in_err-shown-clause-refused
returns-in_err-shown-clause-refused c =
    let first = c.in-Some.first.now in
    let second = c.in-Some-cut_line.second.now in
    let one : bytes_to_line_end (drop 4 c.args.bytes.now) ≡ Some (first, c.in-Some.rest.now) = rw c.split_at.ensures.back at c.in-Some.ensures in
    let is : c.from_residual-in_err-shown.result ≡ Err c.in_err-shown.field-0.0 = search rules in
    rw is (refused_on fault.Header c.in_err-shown.field-0.0 (no_view c.args.bytes.now first c.in-Some.rest.now one second c.in-Some-cut_line.body.now c.in-Some-cut_line.ensures) c.in_err-shown.ensures.refused)

pub returns-then-not-is_same-clause-refused : goal.returns-then-not-is_same-clause-refused
returns-then-not-is_same-clause-refused c = grind (arith, common_steps, other_size)

pub returns-clause-found : goal.returns-clause-found
returns-clause-found c = grind (arith, common_steps, header_found, tree_of)
