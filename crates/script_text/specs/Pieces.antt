-- Tokens with how they stand beside others, and the text that they make.
use Rattle.std.specs.Prelude.{ℕ, ℤ, ◌+◌, ◌-◌, ◌*◌, ◌||◌, ◌==◌, Bool, true, false, if◌then◌else◌, List, [], ◌∷◌, ◌++◌, replicate, slice_index, codes}
use Rattle.std.specs.List.{flat_map}
use Rattle.std.specs.Str.{encode_utf8_all}
use Rattle.std.specs.Char.Utf16.{utf16_lossy_chars}
use Rattle.std.specs.Fmt.{signed_decimal}
use Rattle.js_value.specs.Texts.{quoted}
use Rattle.script_text.specs.declared.gap.Gap.{Gap}
use Rattle.script_text.specs.declared.gap.Gap.TheVariants.{Start, Tight, Sign, Loose}

pub data Piece : Type 0 where
  -- the text of a token, whether no space stands before it, and what may stand behind it
  Token : List ℕ → Bool → Gap → Piece
  LineEnd : Piece
  -- one more level of indentation, and one less
  Open : Piece
  Close : Piece
  -- a name that is read or assigned to
  Reference : List ℕ → Piece
  -- a name that is declared, or an identifier name of a property, and what may stand behind it
  Named : List ℕ → Gap → Piece
  -- a string with these units, and what may stand behind it
  Quoted : List ℕ → Gap → Piece
  Number : ℤ → Piece
  -- here code begins that binds these names, and here the code that was begun last ends; no text has them
  Bind : List (List ℕ) → Piece
  Release : Piece

-- what was written so far, what may stand before the next token, and how deep lines are indented
pub record Page : Type 0 where
  pub bytes : List ℕ
  pub gap : Gap
  pub depth : ℕ

-- identifiers are written in UTF-8
abbrev pub utf8 : List ℕ → List ℕ
utf8 units = encode_utf8_all (utf16_lossy_chars units)

-- 43 is `+` and 45 is `-`
abbrev pub begins_with_sign : List ℕ → Bool
begins_with_sign text = slice_index text 0 == 43 || slice_index text 0 == 45

-- What stands before a token: the indentation of its line, nothing, a space where two signs would meet, or one space
-- unless the token stands without one before it.
abbrev pub between : Gap → Bool → ℕ → List ℕ → List ℕ
between Start is_tight depth text = replicate (2 * depth) 32
between Tight is_tight depth text = []
between Sign is_tight depth text = if begins_with_sign text then codes " " else []
between Loose is_tight depth text = if is_tight then [] else codes " "

abbrev pub put_token : Page → List ℕ → Bool → Gap → Page
put_token p text is_tight behind = record p { bytes = p.bytes ++ between p.gap is_tight p.depth text ++ text; gap = behind }

unfoldable pub put : Page → Piece → Page
put p (Token text is_tight behind) = put_token p text is_tight behind
put p LineEnd = record p { bytes = p.bytes ++ codes "\n"; gap = Start }
put p Open = record p { depth = p.depth + 1 }
put p Close = record p { depth = p.depth - 1 }
put p (Reference name) = put_token p (utf8 name) false Loose
put p (Named name behind) = put_token p (utf8 name) false behind
put p (Quoted text behind) = put_token p (quoted text) false behind
put p (Number n) = put_token p (signed_decimal n) false Loose
put p (Bind names) = p
put p Release = p

abbrev pub put_all : List Piece → Page → Page
put_all [] p = p
put_all (piece ∷ pieces) p = put_all pieces (put p piece)

abbrev pub blank : Page
blank = record { bytes = []; gap = Start; depth = 0 }

-- the text of these pieces
abbrev pub text_of : List Piece → List ℕ
text_of pieces = (put_all pieces blank).bytes

-- ---- single tokens

abbrev pub word : List ℕ → List Piece
word text = Token text false Loose ∷ []

-- without a space before it: `;`, `,`, `)`, `]`, the `:` of a field or clause, a postfix operator
abbrev pub closing : List ℕ → List Piece
closing text = Token text true Loose ∷ []

-- without a space behind it: a `(` that groups, the `[` of an array, the `{` of an object
abbrev pub opening : List ℕ → List Piece
opening text = Token text false Tight ∷ []

-- without a space on either side: `.`, and the `(` or `[` of arguments or of an index
abbrev pub inner : List ℕ → List Piece
inner text = Token text true Tight ∷ []

-- a prefix operator written with signs: without a space behind it, unless `+` or `-` comes next
abbrev pub prefix : List ℕ → List Piece
prefix text = Token text false Sign ∷ []

-- ---- lists of parts

-- each behind a comma
abbrev pub behind_commas : {A : Type 0} → (A → List Piece) → List A → List Piece
behind_commas f xs = flat_map (λ x. closing (codes ",") ++ f x) xs

-- with commas between
abbrev pub separated : {A : Type 0} → (A → List Piece) → List A → List Piece
separated f [] = []
separated f (first ∷ more) = f first ++ behind_commas f more
