use Rattle.std.proofs.Common.{◌≡◌, take, map, string_bytes, All, IsUtf8}
use Rattle.q_c_library.specs.Jobs.{HoldsGiven, texts_of}
use Rattle.q_c_library.proofs.job.job_of.Given as goal

abbrev pub invariant-loop-word : goal.invariant-loop-word
invariant-loop-word l =
    record {
      words : map (λ w. string_bytes w) l.job.words.items ≡ texts_of (take l.word-index l.words);
      files : HoldsGiven (take l.word-index l.words) l.job.files;
      texts : All IsUtf8 (texts_of (take l.word-index l.words));
    }
