-- The records that are left of a text, as csv reads them and in place.
use Rattle.std.specs.Prelude.{ℕ, ◌≡◌, ◌+◌, Bool, true, false, List, [], length, Option, Some}
use Rattle.record_dim.specs.Std.{Bor}
use Rattle.std.specs.Option.{unwrap_or}
use Rattle.csv.specs.Reading.{records_from, default_config, source_of, reader_state, reader_trim, reader_config, is_flexible, Ready}
use Rattle.csv.specs.declared.parser.State.{State}
use Rattle.csv.specs.declared.parser.State.TheVariants as st
use Rattle.csv.specs.declared.reader.Reader.{Reader}
use Rattle.csv.specs.declared.reader.Trim.TheVariants as trim
use Rattle.csv_rows.specs.Inner.Unquoted.{behind_line}

-- the records of a text from a state of the machine on
abbrev pub rows_from : State → List ℕ → List (List (List ℕ))
rows_from state text = records_from default_config (length text + 1) state text

-- how many they are
abbrev pub record_count : State → List ℕ → ℕ
record_count state text = length (rows_from state text)

-- the state inside of a record where a quote opens quotes or stands for itself, and the state behind that quote
abbrev pub field_state : Bool → State
field_state true = st.StartField
field_state false = st.InField

abbrev pub quote_state : Bool → State
quote_state true = st.InQuoted
quote_state false = st.InField

-- what is left of a text, of which the first line was read or nothing
abbrev pub text_behind : Bool → List ℕ → List ℕ
text_behind true text = behind_line text
text_behind false text = text

-- the bytes of a slice are known
abbrev pub known : Bor (List ℕ) → Option (List ℕ)
known bytes = Some bytes.now

-- the bytes that a reader of csv has left, and their records
abbrev pub text_left : Reader (Bor (List ℕ)) → List ℕ
text_left reader = unwrap_or (source_of known reader) []

abbrev pub rows_left : Reader (Bor (List ℕ)) → List (List (List ℕ))
rows_left reader = rows_from (reader_state reader) (text_left reader)

-- it reads record after record, of any lengths, by csv's default dialect
pub record IsReading (reader : Reader (Bor (List ℕ))) : Type 0 where
  pub plain : reader_trim reader ≡ trim.None
  pub ready : Ready reader
  pub flexible : is_flexible reader ≡ true
  pub config : reader_config reader ≡ default_config
  pub text : source_of known reader ≡ Some (text_left reader)

-- what is left where a record was asked for a field: it stands, has the same fields, and the same records are behind it
pub record IsAsked {S : Type 0} (stands : S → Type 0) (fields : S → List (List ℕ)) (left : S → List (List (List ℕ))) (before after : S) : Type 0 where
  pub standing : stands after
  pub same : fields after ≡ fields before
  pub behind : left after ≡ left before
