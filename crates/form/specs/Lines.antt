use Rattle.std.specs.Prelude.{◌≡◌, ℕ, ◌-◌, ◌<◌, ◌≤◌, Bool, true, false, cond, not, ◌&&◌, List, [], ◌∷◌, ◌++◌, length, ◌==◌, nat_le}
use Rattle.std.specs.List.{AllByRecursion}

-- whether a byte may stand in a word: from 33 to 126, and no round bracket
abbrev pub word_byte : ℕ → Bool
word_byte b = nat_le 33 b && (nat_le b 126 && (not (b == 40) && not (b == 41)))

-- a word has at least one byte, and each of them may stand in a word
abbrev pub Word : List ℕ → Type 0
Word w = (0 < length w) × AllByRecursion (λ b. word_byte b ≡ true) w

-- the words with a single blank between each and the next
abbrev pub spaced : List (List ℕ) → List ℕ
spaced [] = []
spaced (w ∷ []) = w
spaced (w ∷ v ∷ ws) = w ++ 32 ∷ spaced (v ∷ ws)

-- the text is one word up to `most` words, with single blanks between them
abbrev pub Words : ℕ → List ℕ → Type 0
Words most text =
    (ws : List (List ℕ)) × (0 < length ws) × (length ws ≤ most) × AllByRecursion Word ws × (text ≡ spaced ws)

-- a step line is such a text in round brackets
abbrev pub StepLine : ℕ → List ℕ → Type 0
StepLine most line = (inner : List ℕ) × (line ≡ 40 ∷ (inner ++ 41 ∷ [])) × Words most inner

-- one byte's turn in a pass over a text: a word goes on, a word begins, or a blank ends a word
abbrev pub turn : (word blank in_word none onward begun ended : Bool) → Bool
turn word blank in_word none onward begun ended =
    cond word (cond in_word onward (cond none false begun)) (cond (blank && in_word) ended false)

-- whether the rest of a text is words, within a word or not, where `left` words may still begin
abbrev pub scan : ℕ → Bool → List ℕ → Bool
scan left in_word [] = in_word
scan left in_word (b ∷ bs) =
    turn (word_byte b) (b == 32) in_word (left == 0) (scan left true bs) (scan (left - 1) true bs) (scan left false bs)

-- `Words` as a test, in one pass
abbrev pub is_words : ℕ → List ℕ → Bool
is_words most text = scan most false text
