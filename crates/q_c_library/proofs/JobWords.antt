-- The first words of a job, and one more.
use Rattle.std.proofs.Common.{◌≡◌, ◌∙◌, ◌+◌, ◌<◌, ◌≤◌, ◌++◌, ℕ, Bool, true, false, cond, List, [], ◌∷◌, length, take, map, get_or, flat_map, All, IsUtf8, String, Global, string_bytes, Option, Some, None, Result, Err, IsErrOf, refl, ap, subst}
use Rattle.std.proofs.lemmas.List.{map_more, take_more, take_all, get_or-map, length-map}
use Rattle.std.proofs.lemmas.List.Elements.{All-push}
use Rattle.std.specs.Option.{option_or}
use Rattle.q_io.specs.Files.{Disk}
use Rattle.q_c_library.specs.Jobs.{given_at, gives, lengths_of, made_at, made_of, texts_of}
use Rattle.q_c_library.specs.declared.job.Word.{Word}

-- an option behind a choice goes into it
or_cond : {X : Type 0} (b : Bool) (x : X) (y z : Option X) → option_or (cond b (Some x) y) z ≡ cond b (Some x) (option_or y z)
or_cond true x y z = refl
or_cond false x y z = refl

pub given_at-append : (name : List ℕ) (ws : List Word) (w : Word) → given_at name (ws ++ w ∷ []) ≡ cond (gives name w) (Some w.file.now) (given_at name ws)
given_at-append name [] w = refl
given_at-append name (v ∷ ws) w =
    rw (given_at-append name ws w) (or_cond (gives name w) w.file.now (given_at name ws) (cond (gives name v) (Some v.file.now) None))

-- what stands where no word does
abbrev pub no_word : Word
no_word = record { text = record { ref_ptr = (0, 0); now = [] }; file = record { ref_ptr = (0, 0); now = [] }; is_given = false }

pub texts-more : (words : List Word) (i : ℕ) → i < length words → texts_of (take (i + 1) words) ≡ texts_of (take i words) ++ (get_or words i no_word).text.now ∷ []
texts-more words i lt = map_more (λ (w : Word). w.text.now) words i no_word lt

pub given-more : (words : List Word) (i : ℕ) → i < length words → (name : List ℕ) → given_at name (take (i + 1) words) ≡ cond (gives name (get_or words i no_word)) (Some (get_or words i no_word).file.now) (given_at name (take i words))
given-more words i lt name = rw (take_more words i no_word lt) (given_at-append name (take i words) (get_or words i no_word))

pub utf8-more : (words : List Word) (i : ℕ) → i < length words → All IsUtf8 (texts_of (take i words)) → IsUtf8 (get_or words i no_word).text.now → All IsUtf8 (texts_of (take (i + 1) words))
utf8-more words i lt h u = rw (texts-more words i lt) (All-push IsUtf8 (texts_of (take i words)) (get_or words i no_word).text.now h u)

pub utf8-whole : (words : List Word) (i : ℕ) → length words ≤ i → All IsUtf8 (texts_of (take i words)) → All IsUtf8 (texts_of words)
utf8-whole words i le h = subst (λ (ws : List Word). All IsUtf8 (texts_of ws)) (take_all i words le) h

pub utf8-one : (words : List Word) (i : ℕ) → i < length words → All IsUtf8 (texts_of words) → IsUtf8 (get_or words i no_word).text.now
utf8-one words i lt h =
    subst IsUtf8 (get_or-map (λ (w : Word). w.text.now) words i no_word [] lt) (h i [] (rw (length-map words (λ (w : Word). w.text.now)) lt))

-- what is said of names, of their bytes
flat_map-texts : (f : List ℕ → List ℕ) (names : List (String Global)) → flat_map (λ n. f (string_bytes n)) names ≡ flat_map f (map (λ w. string_bytes w) names)
flat_map-texts f [] = refl
flat_map-texts f (n ∷ ns) = ap (λ (t : List ℕ). f (string_bytes n) ++ t) (flat_map-texts f ns)

map-texts : (f : List ℕ → ℕ) (names : List (String Global)) → map (λ n. f (string_bytes n)) names ≡ map f (map (λ w. string_bytes w) names)
map-texts f [] = refl
map-texts f (n ∷ ns) = ap (λ (t : List ℕ). f (string_bytes n) ∷ t) (map-texts f ns)

-- what was made, and how many bytes it has, by names that are the words
pub made-texts : (words : List Word) (disk : Disk) (names items : List (String Global)) → names ≡ items → map (λ w. string_bytes w) items ≡ texts_of words → flat_map (λ n. made_at words disk (string_bytes n)) names ≡ made_of words disk
made-texts words disk names items e h =
    flat_map-texts (λ (t : List ℕ). made_at words disk t) names ∙ ap (λ (ts : List (List ℕ)). flat_map (λ (t : List ℕ). made_at words disk t) ts) (ap (λ (ws : List (String Global)). map (λ w. string_bytes w) ws) e ∙ h)

pub lengths-texts : (words : List Word) (disk : Disk) (names items : List (String Global)) → names ≡ items → map (λ w. string_bytes w) items ≡ texts_of words → map (λ n. length (made_at words disk (string_bytes n))) names ≡ lengths_of words disk
lengths-texts words disk names items e h =
    map-texts (λ (t : List ℕ). length (made_at words disk t)) names ∙ ap (λ (ts : List (List ℕ)). map (λ (t : List ℕ). length (made_at words disk t)) ts) (ap (λ (ws : List (String Global)). map (λ w. string_bytes w) ws) e ∙ h)

-- an error says the same in place of another value
pub err_of : {S T E : Type 0} (w v : E) → IsErrOf {T = S} {E = E} (Err w) v → IsErrOf {T = T} {E = E} (Err w) v
err_of w v h = let e : w ≡ v = cc in ap Err e
