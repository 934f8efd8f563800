-- What the lines of the language say of the records, mapping expressions and extents in them.
use Rattle.saved_runs.proofs.Imports.{◌≡◌, ℕ, ◌+◌, ◌-◌, ◌^◌, ◌<◌, ◌≤◌, Bool, true, false, List, [], ◌∷◌, map, nat_lt, Some, None, if◌then◌else◌, refl, arith, ltb-true, Grammar, Is, behind_token, Asked, as_asked, opens, closes, brackets_after, MayOpen, AreSpelled, TokenKind, Tree, Fields, Record, ExtentWord, Fixed, Rows, Token, Two, Command, count_of, Sentence, New, Define, Mapping, View, Load, Relayout, IsSentence, actors, body, bracket_list, command_line, extent_word, fields, fixed, later, line, listed, new, show_end, update_end, written, Each, each_append}
use Rattle.line_tokens.specs.declared.token.TokenKind.TheVariants as kind
use Rattle.line_grammar.specs.declared.line.Command.TheVariants as command
use Rattle.saved_runs.proofs.Maps.{HasTokens, mapping_has}
use Rattle.saved_runs.proofs.Says.{Stand, stand_splits}

-- ---- the words of extents

-- a number of a line, which is below 2^32
abbrev pub IsLow : ExtentWord → Type 0
IsLow (Fixed n) = n < 2 ^ 32
IsLow Rows = Unit {0}

below : (test : Bool) (n v : ℕ) → nat_lt n (2 ^ 32) ≡ test → (if test then Some n else None) ≡ Some v → v < 2 ^ 32
below test n v low is = grind (arith, ltb-true)

count_low : (token : Token) (v : ℕ) → count_of token ≡ Some v → v < 2 ^ 32
count_low token v is = grind (arith, below, nat_lt)

fixed_low : Asked Stand fixed (λ xs v. IsLow v)
unfolding fixed
fixed_low = λ n xs i s. count_low i.0 n i.2

extents_low : Asked Stand extent_word (λ xs v. IsLow v)
unfolding extent_word
extents_low = (tt, fixed_low)

-- each of the phrases of a list in brackets
listed_each : {A : Type 0} (one : Grammar Token A) (P : A → Type 0) → Asked Stand one (λ xs v. P v) → (xs : List Token) (found : List A) → Is (listed one) xs found → Stand xs → Each P found
unfolding listed later
listed_each one P has = as_asked stand_splits (listed one) (λ xs v. Each P v) (λ first xs i s. grind (arith, as_asked, stand_splits, each_append, behind_token))

bracketed_each : {A : Type 0} (one : Grammar Token A) (P : A → Type 0) → Asked Stand one (λ xs v. P v) → (xs : List Token) (found : List A) → Is (bracket_list one) xs found → Stand xs → Each P found
unfolding bracket_list
bracketed_each one P has = as_asked stand_splits (bracket_list one) (λ xs v. Each P v) (λ found xs i s. listed_each one P has xs found i s)

-- ---- the fields of a record

-- spelled tokens have room before fewer brackets
after_less : (token : TokenKind) (few many : ℕ) → few ≤ many → MayOpen token many → MayOpen token few × (brackets_after token few ≤ brackets_after token many)
after_less (kind.Sign sign) few many less room = ((λ o. omega (arith, less, room o)), after (opens sign) (closes sign))
  where
    after : (o c : Bool) → (if o then few + 1 else (if c then few - 1 else few)) ≤ (if o then many + 1 else (if c then many - 1 else many))
    after true c = omega (arith, less)
    after false true = omega (arith, less)
    after false false = less
after_less token few many less room = (tt, less)

fewer : (xs : List Token) (few many : ℕ) → few ≤ many → AreSpelled many (map written xs) → AreSpelled few (map written xs)
fewer [] few many less h = tt
fewer (token ∷ xs) few many less h =
    let after = after_less (written token).kind few many less h.1 in
    (h.0, after.0, fewer xs (brackets_after (written token).kind few) (brackets_after (written token).kind many) after.1 h.2)

-- spelled tokens are these fields
pub record AreFields (value : Fields) : Type 0 where
  pub tokens : List Token
  pub are : Is fields tokens value
  pub spelled : AreSpelled 0 (map written tokens)

-- ---- lines

-- a tree is the record of such fields
pub record IsRecord (tree : Tree) : Type 0 where
  pub fields : Fields
  pub is : tree ≡ Record fields
  pub are : AreFields fields

-- the mapping expression of a new view is of parts that tokens say, and its numbers are of the language
pub record IsNewSaid (new : New) : Type 0 where
  pub term : HasTokens new.term
  pub words : Each IsLow new.words

abbrev pub IsSaid : Sentence → Type 0
IsSaid (Define name tree) = IsRecord tree
IsSaid (Mapping name term) = HasTokens term
IsSaid (View new) = IsNewSaid new
IsSaid (Load new file) = IsNewSaid new
IsSaid (Relayout view term) = HasTokens term
IsSaid line = Unit {0}

new_said : (word : Grammar Token ExtentWord) → Asked Stand word (λ xs v. IsLow v) → (xs : List Token) (made : New) → Is (new Two word) xs made → Stand xs → IsNewSaid made
unfolding new
new_said word low = as_asked stand_splits (new Two word) (λ xs v. IsNewSaid v) (λ name a i s schema b j t words c k u wrap d l v term e m w.
    record { term = mapping_has e term m w; words = bracketed_each word IsLow low c words k u })

body_said : (word : Command) → Asked Stand (body Two word) (λ xs v. IsSaid v)
unfolding body update_end actors show_end
body_said command.Record = λ name a i s held b j t. record { fields = held; is = refl; are = record { tokens = b; are = j; spelled = fewer b 0 t.0 (omega arith) t.1 } }
body_said command.Mapping = λ name a i s term b j t. mapping_has b term j t
body_said command.View = λ made a i s. new_said fixed fixed_low a made i s
body_said command.Load = λ made a i s file b j t. new_said extent_word extents_low a made i s
body_said command.Relayout = λ view a i s term b j t. mapping_has b term j t
body_said _ = search

line_said : Asked Stand (line Two) (λ xs v. IsSaid v)
unfolding line command_line
line_said = ((λ word a i s. body_said word), tt)

-- what spelled tokens say that are a line
pub sentence_said : (tokens : List Token) (sentence : Sentence) → IsSentence Two tokens sentence → AreSpelled 0 (map written tokens) → IsSaid sentence
sentence_said tokens sentence is spelled = as_asked stand_splits (line Two) (λ xs v. IsSaid v) line_said tokens sentence is (0, spelled)
