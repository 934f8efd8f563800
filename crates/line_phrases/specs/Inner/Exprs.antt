-- Expressions as they are read, and what is left of a chain behind a left side.
use Rattle.line_phrases.specs.Imports.{Box, box_value, Bool, Option, None, Some, is_some, Global, Grammar, Value, links, BinOp, Expr, Binary, term_of, Token}
use Rattle.line_grammar.specs.Prelude.{joined}

-- whether a token has a meaning
abbrev pub means : {A : Type 0} → (Token → Option A) → Token → Bool
means value token = is_some (value token)

-- a value behind what stands in front of it: a left side and its operator, or nothing
abbrev pub behind_left : Option (Value × BinOp) → Value → Value
behind_left None right = right
behind_left (Some left) right = Binary left.1 left.0 right

-- the next operand of a chain, and the operators and operands behind it
unfoldable pub chain_behind : (Token → Option BinOp) → Grammar Token Value → Option (Value × BinOp) → Grammar Token Value
chain_behind operator one left = joined one (λ right. links operator one (behind_left left right))

-- the value of an expression that was read, and a left side and its operator
abbrev pub boxed_term : Box Expr Global → Value
boxed_term boxed = term_of (box_value boxed)

abbrev pub left_term : Option (Box Expr Global × BinOp) → Option (Value × BinOp)
left_term None = None
left_term (Some left) = Some (boxed_term left.0, left.1)
