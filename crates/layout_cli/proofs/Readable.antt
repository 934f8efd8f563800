-- Lines that can read what they read.
use Rattle.layout_cli.proofs.Imports.{◌≡◌, ℕ, false, Bool, true, if◌then◌else◌, List, Option, Some, Ok, Err, sym, subst, IfSome, File, file_named, New, file_in, World, Tested, Outcome, Refusal, sure, Faults, free, quiet, load, loaded_table, loaded, read, there, open_view, opened_table, opened_beside, room, named, with_view, step, ◌>>=◌}
use Rattle.line_grammar.specs.Sentences as line
use Rattle.worlds.specs.declared.fault.CommandFault.{CommandFault}

-- it goes on or is refused, and is not that a file can't be read
pub data IsReadable {A : Type 0} : Outcome A → Type 0 where
  goes : (x : A) → IsReadable (Ok x)
  faults : (fault : CommandFault) → IsReadable (Err (Refusal fault))

pub next : {A B : Type 0} {outcome : Outcome A} {more : A → Outcome B} → IsReadable outcome → ((x : A) → IsReadable (more x)) → IsReadable (outcome >>= more)
next (goes x) behind = behind x
next (faults fault) behind = faults fault

pub refused_or : {A : Type 0} {outcome : Outcome A} (test : Bool) (fault : CommandFault) → IsReadable outcome → IsReadable (if test then Faults fault else outcome)
refused_or true fault reads = faults fault
refused_or false fault reads = reads

-- what reads no file
pub surely : {A : Type 0} (x : Tested A) → IsReadable (sure x)
surely (Ok x) = goes x
surely (Err fault) = faults fault

-- a file that is there can be read
read_reads : (files : List File) (name dataset : List ℕ) → file_named files name ≡ Some dataset → IsReadable (read files false name)
read_reads files name dataset is = subst (λ (file : Option (List ℕ)). IsReadable (there name file)) (sym is) (goes dataset)

load_reads : (world : World) (new : New) (file dataset : List ℕ) (files : List File) → file_named files file ≡ Some dataset → IsReadable (load world new file files false)
unfolding load loaded_table
load_reads world new file dataset files is =
    next (next (surely (named world new)) (λ whole. next (read_reads files file dataset is) (λ bytes. surely (loaded world.views whole new.words bytes))))
    (λ table. surely (quiet (with_view world new.name table)))

open_reads : (world : World) (name file blobs : List ℕ) (files : List File) → file_named files file ≡ Some blobs → IsReadable (open_view world name file files false)
unfolding open_view opened_table
open_reads world name file blobs files is =
    next (next (surely (free name world.views)) (λ unused. next (surely (room world.views)) (λ space. next (read_reads files file blobs is) (λ bytes. surely (opened_beside world.views bytes)))))
    (λ table. surely (quiet (with_view world name table)))

-- a line whose file, if it reads one, is there
pub step_reads : (world : World) (sentence : line.Sentence) (files : List File) (dataset : List ℕ) → IfSome (file_in sentence) (λ file. file_named files file ≡ Some dataset) → IsReadable (step world sentence files false)
unfolding step
step_reads world (line.Load new file) files dataset is = load_reads world new file dataset files is
step_reads world (line.Open name file) files dataset is = open_reads world name file dataset files is
step_reads world line.Blank files dataset is = goes _
step_reads world sentence files dataset is = surely _
