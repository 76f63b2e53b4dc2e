pub mod WorkerFacts
