-- No bytes are the files of two headers, nor of one with two lists of blobs.
use Rattle.blob_file.proofs.Imports.{◌≡◌, ℕ, ◌<◌, ◌≤◌, ◌^◌, ℤ, List, [], ◌∷◌, ◌++◌, length, map, refl, sym, ap, ◌∙◌, arith, length-append, codes, length-map, append-nil, true, NoEnd, Sentence, canonical, line_tokens, core_tokens, flag_tokens, map_tokens, bracket_list, extent_tokens, Token, Word, Each, Fixed, StoreMode, Owner, image, Record, bytes_of, length-bytes_of, joined, blob_lengths, Header, magic, four_bytes, is_wrap, record_line, view_line, record_text, view_text, header_text, file_of, IsShort, owners_by, image_bytes, is_nameless, IsTyped, OneFile}
use Rattle.blob_file.proofs.Parts.{same_fronts, same_lines, same_numbers, same_blobs}
use Rattle.blob_file.proofs.Tokens.{IsPlain, same_tokens, tokens_no_end}
use Rattle.blob_file.proofs.Fields.{same_records}
use Rattle.blob_file.proofs.Maps.{same_extents, same_flag, same_map}
use Rattle.blob_file.proofs.Typed.{record_plain, view_plain}

-- ---- the bytes of an image have the lengths of the layout

image_lengths : (layout : List (List Owner)) (rows : List (List ℤ)) → map (length {A = ℕ}) (map bytes_of (image layout rows)) ≡ blob_lengths layout
image_lengths [] rows = refl
image_lengths (owners ∷ layout) rows = grind (arith, length-bytes_of, length-map, (image_lengths layout rows))

pub lengths_of_image : (header : Header) (rows : List (List ℤ)) → map (length {A = ℕ}) (image_bytes header rows) ≡ blob_lengths (owners_by header)
lengths_of_image header rows = image_lengths (owners_by header) rows

-- ---- words and modes told apart

pub same_words : (extents others : List ℕ) → map Fixed extents ≡ map Fixed others → extents ≡ others
same_words [] [] same = refl
same_words [] (other ∷ others) same = absurd (let e : [] ≡ Fixed other ∷ map Fixed others = same in cc)
same_words (extent ∷ extents) [] same = absurd (let e : Fixed extent ∷ map Fixed extents ≡ [] = same in cc)
same_words (extent ∷ extents) (other ∷ others) same =
    let heads : Fixed extent ≡ Fixed other = cc in
    let here : extent ≡ other = cc in
    let rest : map Fixed extents ≡ map Fixed others = cc in
    ap (λ (n : ℕ). n ∷ extents) here ∙ ap (λ (ns : List ℕ). other ∷ ns) (same_words extents others rest)

pub same_modes : (mode other : StoreMode) → is_wrap mode ≡ is_wrap other → mode ≡ other
same_modes mode other e = grind arith

-- ---- headers told apart

-- by the tokens of their lines
pub same_headers : (one other : Header) → is_nameless one.mapping ≡ true → is_nameless other.mapping ≡ true → line_tokens (record_line one) ≡ line_tokens (record_line other)
    → line_tokens (view_line one) ≡ line_tokens (view_line other) → one ≡ other
same_headers one other plain bare records views =
    let cores : core_tokens (Record one.fields) ++ [] ≡ core_tokens (Record other.fields) ++ [] = cc in
    let fields : one.fields ≡ other.fields = same_records one.fields other.fields cores in
    let front : List Token = flag_tokens (codes "wrap") (is_wrap one.mode) ++ Word (codes "as") ∷ map_tokens one.mapping in
    let back : List Token = flag_tokens (codes "wrap") (is_wrap other.mode) ++ Word (codes "as") ∷ map_tokens other.mapping in
    let lists : bracket_list (map extent_tokens (map Fixed one.extents)) ++ front ≡ bracket_list (map extent_tokens (map Fixed other.extents)) ++ back = cc in
    let words = same_extents (map Fixed one.extents) (map Fixed other.extents) front back lists in
    let flags = same_flag (is_wrap one.mode) (is_wrap other.mode) (map_tokens one.mapping) (map_tokens other.mapping) words.1 in
    let maps = same_map one.mapping other.mapping [] [] plain bare (append-nil (map_tokens one.mapping) ∙ flags.1 ∙ sym (append-nil (map_tokens other.mapping))) in
    let extents : one.extents ≡ other.extents = same_words one.extents other.extents words.0 in
    let mode : one.mode ≡ other.mode = same_modes one.mode other.mode flags.0 in
    λ i. record { fields = fields i; extents = extents i; mode = mode i; mapping = maps.0 i }

-- ---- files told apart

-- a short header takes few bytes
pub short_length : (header : Header) → IsShort header → length (header_text header) ≤ 8194
short_length header short = grind (arith, length-append)

-- the texts and the bytes of the blobs of one file
pub same_files : (one other : Header) (blobs others : List (List ℕ)) → IsShort one → IsShort other → NoEnd (record_text one) → NoEnd (view_text one) → NoEnd (record_text other) → NoEnd (view_text other)
    → file_of one blobs ≡ file_of other others → (record_text one ≡ record_text other) × (view_text one ≡ view_text other) × (joined blobs ≡ joined others)
unfolding file_of
same_files one other blobs others short low a b c d same =
    let few : length (header_text one) < 2 ^ 32 = omega (arith, short_length one short) in
    let less : length (header_text other) < 2 ^ 32 = omega (arith, short_length other low) in
    let behind = same_fronts magic magic (four_bytes (length (header_text one)) ++ (header_text one ++ joined blobs)) (four_bytes (length (header_text other)) ++ (header_text other ++ joined others)) refl same in
    let sizes = same_fronts (four_bytes (length (header_text one))) (four_bytes (length (header_text other))) (header_text one ++ joined blobs) (header_text other ++ joined others) refl behind.1 in
    let size : length (header_text one) ≡ length (header_text other) = same_numbers (length (header_text one)) (length (header_text other)) few less sizes.0 in
    let parts = same_fronts (header_text one) (header_text other) (joined blobs) (joined others) size sizes.1 in
    let first = same_lines (record_text one) (record_text other) (view_text one ++ 10 ∷ []) (view_text other ++ 10 ∷ []) a c parts.0 in
    let second = same_lines (view_text one) (view_text other) [] [] b d first.1 in
    (first.0, second.0, parts.1)

-- the texts of a header end no line, and tell its tokens
no_end : (sentence : Sentence) → Each IsPlain (line_tokens sentence) → NoEnd (canonical sentence)
unfolding canonical
no_end sentence plain = tokens_no_end (line_tokens sentence) plain

record_told : (one other : Header) → IsTyped one → IsTyped other → record_text one ≡ record_text other → line_tokens (record_line one) ≡ line_tokens (record_line other)
unfolding canonical
record_told one other typed known same = same_tokens _ _ _ _ (record_plain one typed) (record_plain other known) same

view_told : (one other : Header) → IsTyped one → IsTyped other → view_text one ≡ view_text other → line_tokens (view_line one) ≡ line_tokens (view_line other)
unfolding canonical
view_told one other typed known same = same_tokens _ _ _ _ (view_plain one typed) (view_plain other known) same

pub one_file : OneFile
one_file bytes one other blobs others is that typed known =
    let texts = same_files one other blobs others is.short that.short (no_end (record_line one) (record_plain one typed)) (no_end (view_line one) (view_plain one typed))
    (no_end (record_line other) (record_plain other known)) (no_end (view_line other) (view_plain other known)) (sym is.is ∙ that.is) in
    let header : one ≡ other = same_headers one other typed.nameless known.nameless (record_told one other typed known texts.0) (view_told one other typed known texts.1) in
    let lengths : map (length {A = ℕ}) blobs ≡ map (length {A = ℕ}) others =
    ap (map (length {A = ℕ})) is.image_is ∙ lengths_of_image one is.rows
    ∙ ap (λ (h : Header). blob_lengths (owners_by h)) header
    ∙ sym (ap (map (length {A = ℕ})) that.image_is ∙ lengths_of_image other that.rows) in
    (header, same_blobs blobs others lengths texts.2)
