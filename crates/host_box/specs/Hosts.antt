-- What a call of a host does to its answers left and to the numbers of its calls that fail.
use Rattle.std.specs.Prelude.{◌≡◌, ℕ, ◌-◌, ◌==◌, nat_le, ℤ, pos, ◌+ℤ◌, int_le, true, false, if◌then◌else◌, List, [], ◌∷◌, ◌++◌, None, Some, ◌⊎◌, ⊤}
use Rattle.std.specs.declared.option.Option.{Option}
use Rattle.std.specs.Option.{option_map}
use Rattle.js_value.specs.Numbers.{greatest}
use Rattle.js_value.specs.declared.primitive.Primitive.{Primitive}
use Rattle.js_value.specs.declared.primitive.Primitive.TheVariants as primitive
use Rattle.pp_io.specs.Streams.{Rose}
use Rattle.host_box.specs.declared.answer.Answer.{Answer}
use Rattle.host_box.specs.declared.answer.Reply.{Reply}
use Rattle.host_box.specs.declared.answer.Reply.TheVariants.{Given, Thrown, Ended, Failed, NoMemory}

abbrev pub given : Primitive → Answer
given v = record { value = v; threw = false }

abbrev pub thrown : Primitive → Answer
thrown v = record { value = v; threw = true }

-- this answer, and then those that are left
abbrev pub before_answers : Answer → Option (List Answer) → Option (List Answer)
before_answers a left = option_map (λ xs. a ∷ xs) left

-- the answers left, and then this one
abbrev pub after_answers : Option (List Answer) → Answer → Option (List Answer)
after_answers left a = option_map (λ xs. xs ++ a ∷ []) left

-- no answer is left, where they are told
abbrev pub IsUsedUp : Option (List Answer) → Type 0
IsUsedUp None = ⊤
IsUsedUp (Some xs) = xs ≡ []

-- the reply by the answers left before and after
abbrev pub Replies : Option (List Answer) → Option (List Answer) → Reply → Type 0
Replies old new (Given value) = old ≡ before_answers (given value) new
Replies old new (Thrown value) = old ≡ before_answers (thrown value) new
Replies old new Ended = (new ≡ old) × IsUsedUp old
Replies old new Failed = new ≡ old
Replies old new NoMemory = (new ≡ old) ⊎ ((a : Answer) × (old ≡ before_answers a new))

-- the numbers of later calls, after one more
abbrev pub numbers_after_call : List ℕ → List ℕ
numbers_after_call [] = []
numbers_after_call (n ∷ ns) = if n == 1 then numbers_after_call ns else (n - 1) ∷ numbers_after_call ns

-- a call failed only where the count of faults rose
abbrev pub CallHasCause : ℕ → ℕ → Reply → Type 0
CallHasCause before now Failed = Rose before now
CallHasCause before now _ = ⊤

-- the reply by an answer
abbrev pub reply_of : Answer → Reply
reply_of a = if a.threw then Thrown a.value else Given a.value

-- the reply of a queue: the first answer, or that there is none
abbrev pub IsFirst : List Answer → Reply → Type 0
IsFirst [] reply = reply ≡ Ended
IsFirst (a ∷ rest) reply = reply ≡ reply_of a

-- the reply of a count of calls, and the count after it
abbrev pub next_reply : ℤ → Reply
next_reply calls = if int_le greatest calls then Ended else Given (primitive.Number (calls +ℤ pos 1))

abbrev pub next_count : ℤ → ℤ
next_count calls = if int_le greatest calls then calls else calls +ℤ pos 1

-- the numbers of calls that fail, of those from the first on, after so many
abbrev pub numbers_later : ℕ → List ℕ → List ℕ
numbers_later calls [] = []
numbers_later calls (n ∷ ns) =
    if n == 0 then 0 ∷ numbers_later calls ns else (if nat_le n calls then numbers_later calls ns else (n - calls) ∷ numbers_later calls ns)
