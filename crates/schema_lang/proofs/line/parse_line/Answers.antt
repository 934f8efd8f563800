use Rattle.schema_lang.proofs.Imports.{◌≡◌, sym, ap, ◌∙◌, arith, ◌≤◌, ◌-◌, length, ◌<◌, nat_tests, sentence_of, deepest, Spots, column_behind, ok_parts}
use Rattle.schema_lang.proofs.LineLaws.{found_line, full_line, one_line}
use Rattle.schema_lang.proofs.LineOfLaws.{told_by}
use Rattle.schema_lang.proofs.line.parse_line.Goals as goal

pub returns-in_err-spots-clause-one : goal.returns-in_err-spots-clause-one
returns-in_err-spots-clause-one c = one_line c.args.version c.args.text.now

pub returns-in_err-tokens-clause-one : goal.returns-in_err-tokens-clause-one
returns-in_err-tokens-clause-one c = one_line c.args.version c.args.text.now

pub returns-then-is_shallow-clause-found : goal.returns-then-is_shallow-clause-found
returns-then-is_shallow-clause-found c =
    let all : Spots c.args.text.now 0 0 c.as_slice.result.now = rw c.as_slice.ensures c.in_ok-spots.ensures.spots in
    found_line c.args.version c.args.text.now c.as_slice.result.now c.deref.result.now (sentence_of c.in-Ok.line) all (c.deref.ensures.value ∙ c.in_ok-tokens.ensures) c.in-Ok.ensures

pub returns-then-is_shallow-clause-only : goal.returns-then-is_shallow-clause-only
returns-then-is_shallow-clause-only c = λ sentence r.
    let all : Spots c.args.text.now 0 0 c.as_slice.result.now = rw c.as_slice.ensures c.in_ok-spots.ensures.spots in
    (ok_parts (sym c.in-Ok.ensures ∙ full_line c.args.version c.args.text.now c.as_slice.result.now c.deref.result.now sentence all (c.deref.ensures.value ∙ c.in_ok-tokens.ensures) r)).0

pub returns-then-is_shallow-clause-one : goal.returns-then-is_shallow-clause-one
returns-then-is_shallow-clause-one c = one_line c.args.version c.args.text.now

pub returns-in-Ok-clause-fault : goal.returns-in-Ok-clause-fault
returns-in-Ok-clause-fault c =
    let all : Spots c.args.text.now 0 0 c.as_slice.result.now = rw c.as_slice.ensures c.in_ok-spots.ensures.spots in
    let test = c.is_shallow.ensures in let falls = c.if-is_shallow.false in
    let deep : 32 < deepest (sentence_of c.in-Ok.line) = grind (arith, nat_tests) in
    (sentence_of c.in-Ok.line, found_line c.args.version c.args.text.now c.as_slice.result.now c.deref.result.now (sentence_of c.in-Ok.line) all (c.deref.ensures.value ∙ c.in_ok-tokens.ensures) c.in-Ok.ensures, deep)

pub returns-in-Ok-clause-only : goal.returns-in-Ok-clause-only
returns-in-Ok-clause-only c = λ sentence r.
    let all : Spots c.args.text.now 0 0 c.as_slice.result.now = rw c.as_slice.ensures c.in_ok-spots.ensures.spots in
    let test = c.is_shallow.ensures in let falls = c.if-is_shallow.false in
    let deep : 32 < deepest (sentence_of c.in-Ok.line) = grind (arith, nat_tests) in
    let same = (ok_parts (sym c.in-Ok.ensures ∙ full_line c.args.version c.args.text.now c.as_slice.result.now c.deref.result.now sentence all (c.deref.ensures.value ∙ c.in_ok-tokens.ensures) r)).0 in
    rw (← same) deep

pub returns-in-Ok-clause-one : goal.returns-in-Ok-clause-one
returns-in-Ok-clause-one c = one_line c.args.version c.args.text.now

pub returns-in-Err-NoMemory-clause-one : goal.returns-in-Err-NoMemory-clause-one
returns-in-Err-NoMemory-clause-one c = one_line c.args.version c.args.text.now

pub returns-clause-only : goal.returns-clause-only
returns-clause-only c = λ sentence r.
    let all : Spots c.args.text.now 0 0 c.as_slice.result.now = rw c.as_slice.ensures c.in_ok-spots.ensures.spots in
    let full = full_line c.args.version c.args.text.now c.as_slice.result.now c.deref.result.now sentence all (c.deref.ensures.value ∙ c.in_ok-tokens.ensures) r in
    let stopped = rw c.in-Err-Syntax.field-0-is at c.in-Err-Syntax.ensures in
    let bad = sym full ∙ stopped in cc

pub returns-clause-one : goal.returns-clause-one
returns-clause-one c = one_line c.args.version c.args.text.now

pub returns-then-is_shallow-clause-told : goal.returns-then-is_shallow-clause-told
returns-then-is_shallow-clause-told c =
    let all : Spots c.args.text.now 0 0 c.as_slice.result.now = rw c.as_slice.ensures c.in_ok-spots.ensures.spots in
    let test = c.is_shallow.ensures in let holds = c.if-is_shallow.true in
    let low : deepest (sentence_of c.in-Ok.line) ≤ 32 = grind (arith, nat_tests) in
    (told_by c.args.version c.args.text.now c.as_slice.result.now c.deref.result.now _ all (c.deref.ensures.value ∙ c.in_ok-tokens.ensures) c.in-Ok.ensures, low)

pub returns-in-Ok-clause-told : goal.returns-in-Ok-clause-told
returns-in-Ok-clause-told c =
    let all : Spots c.args.text.now 0 0 c.as_slice.result.now = rw c.as_slice.ensures c.in_ok-spots.ensures.spots in
    let test = c.is_shallow.ensures in let falls = c.if-is_shallow.false in
    let deep : 32 < deepest (sentence_of c.in-Ok.line) = grind (arith, nat_tests) in
    (sentence_of c.in-Ok.line, told_by c.args.version c.args.text.now c.as_slice.result.now c.deref.result.now _ all (c.deref.ensures.value ∙ c.in_ok-tokens.ensures) c.in-Ok.ensures, deep)

pub returns-clause-told : goal.returns-clause-told
returns-clause-told c =
    let text = c.args.text.now in let spots = c.as_slice.result.now in
    let all : Spots text 0 0 spots = rw c.as_slice.ensures c.in_ok-spots.ensures.spots in
    let again : c.as_slice-in-Err-Syntax.result.now ≡ spots = c.as_slice-in-Err-Syntax.ensures ∙ sym c.as_slice.ensures in
    let column : c.column_of.result ≡ column_behind (length spots - c.in-Err-Syntax.left) spots = c.column_of.ensures ∙ ap (λ k. column_behind (length k - c.in-Err-Syntax.left) k) again in
    let stopped = rw c.in-Err-Syntax.field-0-is at c.in-Err-Syntax.ensures in
    rw column (told_by c.args.version text spots c.deref.result.now _ all (c.deref.ensures.value ∙ c.in_ok-tokens.ensures) stopped)
