-- A job: the words of a command, of which some name files that are given. What of a job's files is told when it is done. A list of moves.
use Rattle.std.specs.Prelude.{◌≡◌, ◌⊎◌, ◌&&◌, ℕ, Bool, cond, List, [], ◌∷◌, map, length, replicate, flat_map, All, IsUtf8, Option, Some, None}
use Rattle.std.specs.List.{list_any}
use Rattle.std.specs.Option.{option_or}
use Rattle.std.specs.Str.{bytes_eq}
use Rattle.std.specs.FinMap as store
use Rattle.q_io.specs.Files.{Disk, bytes_at}
use Rattle.q_command.specs.Statuses.{code_of}
use Rattle.q_command.specs.declared.status.Status.TheVariants as status
use Rattle.q_guides.specs.MoveTexts.{wrong_line}
use Rattle.q_c_library.specs.Calls.{Copied, Done}
use Rattle.q_c_library.specs.declared.job.Word.{Word}

-- the bytes of each word
abbrev pub texts_of : List Word → List (List ℕ)
texts_of words = map (λ w. w.text.now) words

-- this word gives a file of this name
abbrev pub gives : List ℕ → Word → Bool
gives name w = w.is_given && bytes_eq w.text.now name

-- the bytes that are given under a name; the last word counts
abbrev pub given_at : List ℕ → List Word → Option (List ℕ)
given_at name [] = None
given_at name (w ∷ ws) = option_or (given_at name ws) (cond (gives name w) (Some w.file.now) None)

-- the files that are given, and no others
abbrev pub HoldsGiven : List Word → Disk → Type 0
HoldsGiven words disk = (name : List ℕ) → store.get disk name ≡ given_at name words

-- what is told of a name: its bytes, and nothing where it was given
abbrev pub made_at : List Word → Disk → List ℕ → List ℕ
made_at words disk name = cond (list_any (gives name) words) [] (bytes_at disk name)

-- the files that were made, in the order of the words that name them, and how many bytes each has
abbrev pub made_of : List Word → Disk → List ℕ
made_of words disk = flat_map (λ name. made_at words disk name) (texts_of words)

abbrev pub lengths_of : List Word → Disk → List ℕ
lengths_of words disk = map (λ name. length (made_at words disk name)) (texts_of words)

-- what is told of a job that was done: its line, the files that were made, one behind the other, and how many bytes each has
abbrev pub JobTold : List Word → List ℕ → List ℕ → ℕ → List ℕ → List ℕ → List ℕ → Disk → List ℕ → Type 0
JobTold words line_old line_new line_length made_old made_new lengths disk text =
    Copied text line_old line_new line_length
    × Copied (made_of words disk) made_old made_new (length (made_of words disk))
    × (lengths ≡ lengths_of words disk)

-- nothing is told
abbrev pub NothingTold : List ℕ → List ℕ → ℕ → List ℕ → List ℕ → List ℕ → List ℕ → Type 0
NothingTold line_old line_new line_length made_old made_new lengths_old lengths_new =
    (lengths_new ≡ replicate (length lengths_old) 0) × (line_length ≡ 0) × (made_new ≡ made_old) × (line_new ≡ line_old)

-- each word is text, and there is a length for each
pub record IsJob (words : List Word) (lengths : List ℕ) : Type 0 where
  pub texts : All IsUtf8 (texts_of words)
  pub lengths_are : length lengths ≡ length words

-- the job is done, and this holds of what its command left; or memory was wanting, or there is no job, and this holds
abbrev pub JobCalled : List Word → List ℕ → ℕ → (Disk → List ℕ → Type 0) → Type 0 → Type 0
JobCalled words lengths code Kept Untouched =
    (IsJob words lengths × Done (texts_of words) (HoldsGiven words) code Kept)
    ⊎ (((code ≡ code_of status.NoMemory) × Untouched) ⊎ ((code ≡ code_of status.Usage) × ((¬ IsJob words lengths) × Untouched)))

-- what is called is called under a list of moves of which each line is one; or the number of the first line that is none is told and this
-- holds; or memory was wanting for the list, and this holds
abbrev pub ListedCalled : List ℕ → ℕ → ℕ → Type 0 → Type 0 → Type 0
ListedCalled moves wrong code Called Untouched =
    ((wrong_line moves ≡ None) × (wrong ≡ 0) × Called)
    ⊎ (((wrong_line moves ≡ Some wrong) × (code ≡ code_of status.Usage) × Untouched)
    ⊎ ((wrong ≡ 0) × (code ≡ code_of status.NoMemory) × Untouched))
