-- What is read of an expression has leaves that are read back.
use Rattle.line_writer.proofs.Imports.{◌≡◌, ℕ, suc, [], ◌∷◌, ◌++◌, codes, refl, sym, ap, ◌∙◌, append-nil, arith, zero, inl, inr, Option, Some, ℤ, decimal, decimal_digit, Minus, Token, Word, Sign, Value, Grammar, Is, item, BinOp, Constant, Entry, Index, Neg, Not, Binary, token_number, dimensions, index_of, or_of, and_of, sum_of, product_of, wrapped, number, atom_within, bracketed, chain, choice, comparison, conjunction, expr, expr_over, leaf, links, negation, path, prefixed, product, sum, unary, operator, index_word, number_tokens, value_tokens}
use Rattle.line_writer.proofs.Gives.{Each, Gives, IsSpelled, Prints, gives, prints}
use Rattle.line_writer.proofs.Words.{listed_as}
use Rattle.line_writer.proofs.Phrases.{path_prints}

-- the canonical tokens of a leaf are spelled, and are read as this leaf
pub record IsGoodLeaf (value : Value) : Type 0 where
  pub leaf : Is leaf (value_tokens value) value
  pub spelled : Each IsSpelled (value_tokens value)

-- each leaf is such a leaf
abbrev pub IsGood : Value → Type 0
IsGood (Constant number) = IsGoodLeaf (Constant number)
IsGood (Entry path) = IsGoodLeaf (Entry path)
IsGood (Index dimension) = IsGoodLeaf (Index dimension)
IsGood (Neg inner) = IsGood inner
IsGood (Not inner) = IsGood inner
IsGood (Binary op left right) = IsGood left × IsGood right

number_is : (token : Token) (v : ℤ) → token_number token ≡ Some v → IsSpelled token → number_tokens v ≡ token ∷ []
number_is token v h spelled = grind arith

pub number_prints : Prints number number_tokens
number_prints front v i spelled = number_is i.0 v i.2 (rw i.1 at spelled).0 ∙ sym i.1

-- an index has one token
index_is : (token : Token) (v : ℕ) → index_of token ≡ Some v → IsSpelled token → Word (codes "i" ++ decimal v) ∷ [] ≡ token ∷ []
index_is (Word word) v h spelled = ap (λ k. Word k ∷ []) (sym (listed_as index_word (λ dimension. codes "i" ++ decimal dimension) dimensions
    (rw (decimal_digit 0 (omega arith), decimal_digit 1 (omega arith), decimal_digit 2 (omega arith), decimal_digit 3 (omega arith)) refl) word v h))
index_is other v h spelled = absurd cc

index_prints : Prints (item index_of) (λ v. Word (codes "i" ++ decimal v) ∷ [])
index_prints front v i spelled = index_is i.0 v i.2 (rw i.1 at spelled).0 ∙ sym i.1

-- a leaf has one list of tokens
leaf_prints : Prints leaf value_tokens
unfolding leaf
leaf_prints = prints leaf value_tokens ((_, number_prints, λ number. rw append-nil refl), ((_, index_prints, λ dimension. refl), (_, path_prints, λ path. rw append-nil refl)))

leaf_gives : Gives leaf IsGood
unfolding leaf
leaf_gives front v i spelled =
    let own = leaf_prints front v i spelled in
    let good : IsGoodLeaf v = record { leaf = rw own i; spelled = rw own spelled } in
    gives leaf (λ v. IsGoodLeaf v → IsGood v) ((λ number f i s good. good), ((λ dimension f i s good. good), (λ path f i s good. good))) front v i spelled good

chain_gives : (operator : Token → Option BinOp) (one : Grammar Token Value) → Gives one IsGood → Gives (chain operator one) IsGood
unfolding chain links
chain_gives operator one g = gives (chain operator one) IsGood (λ first f i s. (g f first i s, λ left before good op f i s right h j t. (good, g h right j t)))

wrapped_good : (wrap : Value → Value) → ((value : Value) → IsGood value → IsGood (wrap value)) → (n : ℕ) (value : Value) → IsGood value → IsGood (wrapped wrap n value)
wrapped_good wrap keeps zero value good = good
wrapped_good wrap keeps (suc n) value good = keeps (wrapped wrap n value) (wrapped_good wrap keeps n value good)

prefixed_gives : (token : Token) (wrap : Value → Value) → ((value : Value) → IsGood value → IsGood (wrap value)) → (one : Grammar Token Value) → Gives one IsGood → Gives (prefixed token wrap one) IsGood
unfolding prefixed
prefixed_gives token wrap keeps one g = gives (prefixed token wrap one) IsGood (λ n f i s value h j t. wrapped_good wrap keeps n value (g h value j t))

sum_gives : (one : Grammar Token Value) → Gives one IsGood → Gives (sum one) IsGood
unfolding sum product unary
sum_gives one g = chain_gives sum_of (product one) (chain_gives product_of (unary one) (prefixed_gives (Sign Minus) Neg (λ value good. good) one g))

comparison_gives : (one : Grammar Token Value) → Gives one IsGood → Gives (comparison one) IsGood
unfolding comparison
comparison_gives one g = gives (comparison one) IsGood (λ left f i s. ((λ op f' i' s' right h j t. (sum_gives one g f left i s, sum_gives one g h right j t)), sum_gives one g f left i s))

over_gives : (one : Grammar Token Value) → Gives one IsGood → Gives (expr_over one) IsGood
unfolding expr_over conjunction negation
over_gives one g = chain_gives or_of (conjunction one) (chain_gives and_of (negation one) (prefixed_gives (Word (codes "not")) Not (λ value good. good) (comparison one) (comparison_gives one g)))

atom_gives : (n : ℕ) → Gives (atom_within n) IsGood
unfolding atom_within bracketed choice leaf
atom_gives zero front v i s = leaf_gives front v i s
atom_gives (suc n) front v (inl i) s = gives (bracketed (expr_over (atom_within n))) IsGood (λ value f i s. over_gives (atom_within n) (atom_gives n) f value i s) front v i s
atom_gives (suc n) front v (inr (inl i)) s = gives (choice (expr_over (atom_within n))) IsGood (λ op f' i' s' left f i s right h j t.
    (over_gives (atom_within n) (atom_gives n) f left i s, over_gives (atom_within n) (atom_gives n) h right j t)) front v i s
atom_gives (suc n) front v (inr (inr i)) s = leaf_gives front v i s

pub expr_gives : Gives expr IsGood
unfolding expr
expr_gives front v i s = over_gives (atom_within i.0) (atom_gives i.0) front v i.1 s
