-- Files that are read whole.
use Rattle.std.proofs.Common.{◌≡◌, ◌+◌, ◌<◌, inl, inr, ℕ, List, [], ◌++◌, refl, sym, ap, ◌∙◌, subst, arith, length, take, drop, length-drop}
use Rattle.std.proofs.Math.Seq.{take-add, take-length}
use Rattle.std.proofs.lemmas.List.{take-append-drop, length-take-le}
use Rattle.q_logic.specs.Prelude.{CertificateView}
use Rattle.q_aiger.specs.Circuits.{parse, AreCircuits, FailsWith}
use Rattle.q_aiger.specs.declared.error.AigerError.{AigerError}
use Rattle.q_aiger.specs.declared.error.AigerError.TheVariants as aiger
use Rattle.q_aiger.proofs.LongFiles.{front-parse, same-circuits, same-offence}
use Rattle.q_command.specs.Texts.{IsFront, HasAppended, HasLineEnd, IsTextOf, IsNoText, refused_text}
use Rattle.q_command.specs.declared.circuits.CircuitsError.{CircuitsError}
use Rattle.q_command.specs.declared.circuits.CircuitsError.TheVariants.{Refused, Fault, NoMemory}

pub front-none : (file : List ℕ) → IsFront file 0 []
front-none file = record { is = refl; within = omega arith }

pub front-more : (file : List ℕ) (place n : ℕ) (old new : List ℕ) → IsFront file place old → HasAppended file place n old new → IsFront file (place + n) new
front-more file place n old new f a =
    let l : length (drop place file) ≡ _ = length-drop place file in
    record {
      is = a.is ∙ ap (λ (xs : List ℕ). xs ++ take n (drop place file)) f.is ∙ sym (take-add place n file);
      within = omega (arith, l, a.within, f.within);
    }

pub front-end : (file : List ℕ) (place n : ℕ) (old new : List ℕ) → n ≡ 0 → IsFront file place old → HasAppended file place n old new → new ≡ file
front-end file place n old new z f a =
    let g = front-more file place n old new f a in
    let all : place + n ≡ length file = omega (arith, a.end z, f.within, z) in
    g.is ∙ ap (λ (k : ℕ). take k file) all ∙ take-length file

-- the front is longer than any file may be
pub front-long : (file : List ℕ) (place : ℕ) (text front : List ℕ) → 1099511627776 < place → IsFront file place text → front ≡ text → HasLineEnd text → IsTextOf file front
front-long file place text front lt f e h =
    let n : length (take place file) ≡ place = length-take-le place file f.within in
    let m : length text ≡ place = ap length f.is ∙ n in
    subst (IsTextOf file) (sym e)
    (inr (record {
      rest = drop place file;
      is = sym (ap (λ (xs : List ℕ). xs ++ drop place file) f.is ∙ take-append-drop place file);
      long = omega arith;
      end = h;
    }))

-- what a text says, its file says
text-parse : (file text : List ℕ) → IsTextOf file text → parse file ≡ parse text
text-parse file text (inl e) = ap parse (sym e)
text-parse file text (inr f) = ap parse f.is ∙ front-parse text f.rest f.end.place f.long f.end.within f.end.lf

pub text-circuits : (file text : List ℕ) (c : CertificateView) → IsTextOf file text → AreCircuits text c → AreCircuits file c
text-circuits file text c t h = same-circuits text file c (text-parse file text t) h

pub text-fails : (file text : List ℕ) (e : CircuitsError) → IsTextOf file text → IsNoText e text → IsNoText e file
text-fails file text (Refused k c) t h = same-offence text file k c (text-parse file text t) h
text-fails file text Fault t h = h
text-fails file text NoMemory t h = h

fails-as : (e : AigerError) (text : List ℕ) → FailsWith text e → IsNoText (refused_text e) text
fails-as (aiger.Refused k c) text h = h
fails-as aiger.NoMemory text h = tt

pub refused-fails : (file text now : List ℕ) (e : AigerError) (o : CircuitsError) → now ≡ text → o ≡ refused_text e → FailsWith now e → IsTextOf file text → IsNoText o file
refused-fails file text now e o q r h t =
    subst (λ (x : CircuitsError). IsNoText x file) (sym r) (text-fails file text (refused_text e) t (fails-as e text (subst (λ (xs : List ℕ). FailsWith xs e) q h)))
