mod CopySteps
